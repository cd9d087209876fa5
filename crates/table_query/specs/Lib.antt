pub mod Columns
pub mod LeastCosts
pub mod LesserLaws
pub mod Tables
