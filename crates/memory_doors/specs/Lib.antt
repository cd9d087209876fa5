pub mod Preparing
pub mod SteadyDoors
pub mod SteadyState
