pub mod Places
pub mod Steps
pub mod Rules
pub mod Frames
