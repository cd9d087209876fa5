pub mod Bearing
pub mod Plane
pub mod Position
pub mod Project
pub mod Root
