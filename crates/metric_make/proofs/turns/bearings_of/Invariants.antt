use Rattle.std.proofs.Common.{◌≡◌, ◌++◌, drop, map}
use Rattle.road_segments.specs.Vertex.{vertices}
use Rattle.metric_make.specs.MetricOf.{bearing_along}
use Rattle.metric_make.proofs.turns.bearings_of.Given as goal

-- the segments so far have their bearings
abbrev pub invariant-loop-s : goal.invariant-loop-s
invariant-loop-s l = l.bearings.items ++ map bearing_along (vertices (drop l.s l.network.segments)) ≡ map bearing_along (vertices l.network.segments)
