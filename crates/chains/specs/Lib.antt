pub mod Chains
pub mod Drivers
