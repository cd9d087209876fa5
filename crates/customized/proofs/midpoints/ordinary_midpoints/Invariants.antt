use Rattle.std.proofs.Common.{◌≡◌, ◌++◌, drop, map}
use Rattle.road_segments.specs.Vertex.{vertices}
use Rattle.customized.specs.Framing.{midpoint_of}
use Rattle.customized.proofs.midpoints.ordinary_midpoints.Given as goal

-- the segments so far have their midpoints
abbrev pub invariant-loop-s : goal.invariant-loop-s
invariant-loop-s l = l.midpoints.items ++ map midpoint_of (vertices (drop l.s l.network.segments)) ≡ map midpoint_of (vertices l.network.segments)
