pub mod ByHead
pub mod Placed
pub mod Rows
