use Rattle.std.proofs.Common.{◌≡◌, map, take}
use Rattle.road_turns.specs.DepartureParts.{departure_of, departures}
use Rattle.road_segments.specs.Vertex.{vertices}
use Rattle.road_turns.proofs.departures.numbers_of.Given as goal

-- the vertices so far
abbrev pub invariant-loop-vertex : goal.invariant-loop-vertex
invariant-loop-vertex l = map departure_of l.all.items ≡ take l.vertex (departures (vertices l.roads))
