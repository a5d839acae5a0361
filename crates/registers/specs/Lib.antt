pub mod Data
pub mod Fields
pub mod Protection
pub mod Facts
pub mod Operations
