pub mod States
pub mod Frames
