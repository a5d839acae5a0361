pub mod Options
pub mod Bounds
