pub mod Spots
pub mod Bounds
pub mod Partition
pub mod Halving
pub mod Levels
pub mod Orders
pub mod Parts
