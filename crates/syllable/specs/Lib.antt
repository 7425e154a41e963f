pub mod Codes
pub mod Decoding
pub mod Encoding
pub mod Numbers
pub mod Positions
pub mod ForCode
pub mod ForTheorems
