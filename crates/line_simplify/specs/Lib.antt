pub mod Blocks
pub mod Bounds
pub mod Finds
pub mod Searches
pub mod Simplified
pub mod Splits
pub mod Steps
