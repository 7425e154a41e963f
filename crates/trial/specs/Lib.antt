pub mod Trials
pub mod Lines
pub mod ForCode
