pub mod Fronts
pub mod Runs
pub mod Kin
pub mod Adding
pub mod Turns
pub mod PendingLaws
pub mod ReadLaws
