-- What only the code's own parts need: no public claim names it.
pub mod Rooms
pub mod Refusals
