pub mod Loads
pub mod Texts
pub mod OneAnswer
