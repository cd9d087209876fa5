pub mod Answers
pub mod Asked
pub mod Faults
pub mod Lacks
pub mod Request
pub mod RouteAsked
pub mod TripAsked
