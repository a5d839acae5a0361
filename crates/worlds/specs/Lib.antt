pub mod Turns
pub mod Start
pub mod Step
pub mod Chains
pub mod Talks
pub mod Own
