pub mod Scripts
pub mod Calls
