pub mod Exact
pub mod Excluding
pub mod Framing
pub mod Parts
