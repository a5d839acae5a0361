pub mod Answers
pub mod Memory
pub mod Frames
pub mod Completion
pub mod PowerLoss
pub mod Outcomes
pub mod Whole
pub mod Lent
