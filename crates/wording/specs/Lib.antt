pub mod Commands
pub mod FromText
pub mod Names
pub mod Places
pub mod Results
pub mod ForCode
