pub mod Earth
pub mod TagBytes
