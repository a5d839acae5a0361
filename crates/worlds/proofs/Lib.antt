pub mod Talks
pub mod Sane
pub mod Going
pub mod Chains
pub mod Shapes
pub mod Own
pub mod Example
pub mod CompareExample
