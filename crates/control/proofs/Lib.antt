pub mod Steps
pub mod Rows
pub mod Names
pub mod Frames
pub mod Ends
pub mod Bearing
