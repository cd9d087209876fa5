pub mod BuildCause
pub mod GraphLaws
pub mod LimitLaws
pub mod Limits
pub mod NetworkParts
pub mod NetworkView
pub mod Sound
