pub mod Trials
pub mod Runs
pub mod Fit
