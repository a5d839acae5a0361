pub mod Desk
pub mod Orders
pub mod Promises
