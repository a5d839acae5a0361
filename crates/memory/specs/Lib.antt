pub mod Pages
pub mod Replies
