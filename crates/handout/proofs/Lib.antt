pub mod Numbers
pub mod Handing
pub mod Agree
pub mod Parts
pub mod OneAnswer
