pub mod Rowed
pub mod Blocks
pub mod Worded
pub mod Lowered
