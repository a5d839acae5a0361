mod Held
pub mod Kept
