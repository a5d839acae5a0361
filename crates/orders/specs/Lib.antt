pub mod Orders
pub mod Lines
pub mod Bounds
