pub mod Joining
pub mod Trails
pub mod Steps
