pub mod Stays
pub mod Leaves
pub mod Rules
pub mod Sample
pub mod Demand1
pub mod Demand2
pub mod Demand3
