pub mod Values
pub mod Days
