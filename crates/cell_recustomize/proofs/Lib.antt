pub mod ChangeLemmas
pub mod Counted
pub mod Kept
pub mod Marked
