pub mod Fields
pub mod Files
pub mod Numbers
pub mod OneReading
pub mod Ranges
pub mod Rows
