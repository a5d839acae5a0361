pub mod Tests
pub mod Digits
pub mod Halves
mod Examples
