pub mod Labelled
pub mod ChangedLaws
pub mod Slotted
pub mod Worded
