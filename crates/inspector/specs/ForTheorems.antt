-- What only theorems speak of: no public claim names it.
pub mod Examples
