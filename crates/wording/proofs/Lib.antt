pub mod Choices
pub mod Numbered
pub mod OneAnswer
pub mod Readings
