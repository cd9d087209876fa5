use Rattle.std.proofs.Common.{◌≡◌, ◌+◌, ◌-◌, ◌<◌, ◌≤◌, max, length, drop, get_or, pos}
use Rattle.road_segments.specs.Located.{spot_in}
use Rattle.road_segments.specs.Segment.{segments_along, segments_through}
use Rattle.road_segments.specs.declared.streets.Street.{Street}
use Rattle.road_segments.proofs.spots.count_along.Given as goal

-- the segments before node i are counted, at most one for each node
abbrev pub invariant-loop-i : goal.invariant-loop-i
invariant-loop-i l = record {
  rest : (street : Street) → l.count + length (segments_through (spot_in l.spots) street (get_or l.ids (l.i - 1) (pos 0)) (drop l.i l.ids))
      ≡ length (segments_along (spot_in l.spots) street l.ids);
  few : l.count < l.i;
  near : l.i ≤ max 1 (length l.ids);
}
