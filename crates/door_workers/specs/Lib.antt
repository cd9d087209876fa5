pub mod Leading
pub mod Passing
pub mod Serving
pub mod Settling
