pub mod Postings
pub mod OneAnswer
