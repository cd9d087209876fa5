pub mod Backward
pub mod Columns
pub mod Toward
