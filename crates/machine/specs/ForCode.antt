-- What only the code's own parts need: no public claim and no theorem names it.
pub mod Answers
pub mod Pushes
pub mod Sprints
