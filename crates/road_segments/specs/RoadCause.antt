-- When the segments of a map are refused.
use Rattle.std.specs.Prelude.{ℕ, ◌<◌}
use Rattle.road_segments.specs.Limits.{most_segments}
use Rattle.road_segments.specs.declared.road_faults.RoadFault.{RoadFault}
use Rattle.road_segments.specs.declared.road_faults.RoadFault.TheVariants.{TooManySegments, Memory}

-- why so many segments are refused; want of memory has no cause
abbrev pub IsRoadFault : ℕ → RoadFault → Type 0
IsRoadFault count TooManySegments = most_segments < count
IsRoadFault count Memory = Unit {0}
