pub mod Lines
pub mod Seen
pub mod Demands
pub mod Drivers
