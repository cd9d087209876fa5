pub mod SegmentLemmas
pub mod VertexLemmas
pub mod WayLemmas
pub mod RouteLemmas
pub mod RoadLemmas
mod Drops
