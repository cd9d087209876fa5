pub mod Answering
pub mod Bounds
pub mod Cut
pub mod Cutting
