pub mod Parts
pub mod Sectors
