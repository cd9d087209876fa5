pub mod Counting
pub mod LoadCause
pub mod Loading
