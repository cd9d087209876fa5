use Rattle.std.proofs.Common.{◌≡◌, ◌+◌, ◌≤◌, drop, length}
use Rattle.road_segments.specs.Limits.{most_segments}
use Rattle.road_segments.specs.Located.{segments_on, spot_in}
use Rattle.road_segments.proofs.routes.segment_count.Given as goal

-- the segments of the streets so far are counted
abbrev pub invariant-loop-place : goal.invariant-loop-place
invariant-loop-place l = record {
  rest : l.count + length (segments_on (spot_in l.spots) l.objects (drop l.place-index l.routes.streets.items) (drop l.place-index l.routes.places.items))
      ≡ length (segments_on (spot_in l.spots) l.objects l.routes.streets.items l.routes.places.items);
  few : l.count ≤ most_segments;
}
