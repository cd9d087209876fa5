pub mod Labelled
pub mod Least
pub mod Ranked
pub mod Waiting
