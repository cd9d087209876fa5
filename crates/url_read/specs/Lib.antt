pub mod Coordinates
pub mod Judging
pub mod Options
pub mod Refusals
pub mod Request
pub mod Target
