pub mod ChangeLaws
pub mod Changes
pub mod Making
pub mod Touched
