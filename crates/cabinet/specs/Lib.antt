pub mod Lengths
pub mod Rows
pub mod Crossings
pub mod ForCode
pub mod Arrays
pub mod Inspections
pub mod Posts
