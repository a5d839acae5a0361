pub mod Remainders
pub mod Bytes
