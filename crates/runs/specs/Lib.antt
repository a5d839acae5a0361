pub mod Exchange
pub mod Promises
pub mod Runs
