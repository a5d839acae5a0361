pub mod Laws
pub mod Loops
pub mod Rings
pub mod Words
mod Runs
