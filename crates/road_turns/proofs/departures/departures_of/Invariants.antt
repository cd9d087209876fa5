use Rattle.std.proofs.Common.{◌≡◌, take}
use Rattle.road_turns.specs.DepartureParts.{departures}
use Rattle.road_segments.specs.Vertex.{vertices}
use Rattle.road_turns.proofs.departures.departures_of.Given as goal

-- the vertices so far
abbrev pub invariant-loop-vertex : goal.invariant-loop-vertex
invariant-loop-vertex l = l.all.items ≡ take l.vertex (departures (vertices l.roads))
