pub mod Optional
pub mod Waypoints
pub mod Costs
pub mod Legs
pub mod RouteLegs
pub mod LegLaws
pub mod Replies
