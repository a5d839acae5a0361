pub mod Obeyed
pub mod Control
pub mod Completion
pub mod PowerLoss
pub mod Names
pub mod Starts
pub mod Rulings
