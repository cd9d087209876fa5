pub mod Fields
pub mod Heads
pub mod Replies
