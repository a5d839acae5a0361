pub mod Turns
pub mod Sound
