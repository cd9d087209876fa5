pub mod Ends
pub mod FileReads
pub mod ReadLaws
pub mod StoppedEarly
