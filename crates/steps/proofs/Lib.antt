pub mod ByIndex
pub mod Last
