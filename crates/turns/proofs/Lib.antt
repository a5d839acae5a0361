pub mod Frames
pub mod Turns
