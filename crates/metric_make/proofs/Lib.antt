pub mod AvoidLemmas
mod BearingLemmas
pub mod CopyLemmas
pub mod CostLemmas
pub mod LastRowLemmas
mod LengthLemmas
pub mod MatchLemmas
pub mod MetricLemmas
pub mod UnderLemmas
pub mod WayLemmas
