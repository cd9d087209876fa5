use Rattle.std.proofs.Common.{ℤ, ◌+◌, ◌≤◌, Option, drop, length}
use Rattle.road_segments.specs.Limits.{most_segments}
use Rattle.road_segments.specs.Located.{segments_on}
use Rattle.road_segments.specs.declared.spots.Spot.{Spot}
use Rattle.road_segments.proofs.routes.room_by_nodes.Given as goal

-- there is room for the segments of the streets so far
abbrev pub invariant-loop-place : goal.invariant-loop-place
invariant-loop-place l = record {
  rest : (spot : ℤ → Option Spot) → length (segments_on spot l.objects l.routes.streets.items l.routes.places.items)
      ≤ l.room + length (segments_on spot l.objects (drop l.place-index l.routes.streets.items) (drop l.place-index l.routes.places.items));
  few : l.room ≤ most_segments;
}
