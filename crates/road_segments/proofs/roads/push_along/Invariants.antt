use Rattle.std.proofs.Common.{◌≡◌, ℕ, ◌-◌, ◌<◌, ◌++◌, List, All, drop, get_or, length, pos}
use Rattle.road_segments.specs.Located.{spot_in}
use Rattle.road_segments.specs.Rows.{segments_in, street_at}
use Rattle.road_segments.specs.Segment.{segments_along, segments_through}
use Rattle.road_segments.specs.declared.streets.Street.{Street}
use Rattle.road_segments.proofs.roads.push_along.Given as goal

-- the segments up to node i - 1 have their rows
abbrev pub invariant-loop-i : goal.invariant-loop-i
invariant-loop-i l = record {
  rest : (streets : List Street) → segments_in streets l.rows.items ++ segments_through (spot_in l.spots) (street_at streets l.street) (get_or l.ids (l.i - 1) (pos 0)) (drop l.i l.ids)
      ≡ segments_in streets l.fn.rows.items ++ segments_along (spot_in l.spots) (street_at streets l.street) l.ids;
  last : 0 < length l.ids → spot_in l.spots (get_or l.ids (l.i - 1) (pos 0)) ≡ l.last;
  in_range : (n : ℕ) → l.street < n → All (λ row. row.street < n) l.fn.rows.items → All (λ row. row.street < n) l.rows.items;
}
