pub mod Numbers
pub mod Words
pub mod Bytes
pub mod Backs
pub mod RoundTrip
pub mod Examples
pub mod OneAnswer
