pub mod Pages
pub mod Sectors
pub mod Replies
mod Lent
