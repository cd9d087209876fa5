pub mod BodyLaws
pub mod GrowLaws
pub mod TakeLaws
