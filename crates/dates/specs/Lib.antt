pub mod Calendar
pub mod Terms
