pub mod Pages
pub mod Runs
pub mod Sectors
pub mod Addresses
