pub mod Arriving
pub mod Back
pub mod OneMore
pub mod Reading
pub mod Standing
pub mod Stepping
