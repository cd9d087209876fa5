pub mod Earth
pub mod Points
pub mod StatusCode
pub mod TagBytes
pub mod TagValue
pub mod Words
