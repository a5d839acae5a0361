pub mod Data
pub mod Sets
pub mod Protection
pub mod Operations
pub mod Places
