pub mod Block
pub mod Holds
pub mod Promises
