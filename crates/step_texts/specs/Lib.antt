pub mod Totals
pub mod Lines
pub mod Intersections
pub mod Steps
