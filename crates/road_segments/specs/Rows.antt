-- For private functions: the list of segments that rows of flat lists stand for.
use Rattle.std.specs.Prelude.{◌≡◌, ℕ, ℤ, pos, ◌++◌, Option, ◌<◌, ◌≤◌, List, [], map, length, false, All, unwrap_or}
use Rattle.std.specs.List.{slice_get}
use Rattle.road_base.specs.declared.osm_objects.Object.{Object}
use Rattle.road_segments.specs.Limits.{most_segments}
use Rattle.road_segments.specs.Located.{segments_on}
use Rattle.road_segments.specs.Segment.{Segment, segments_along}
use Rattle.road_segments.specs.declared.roads.Row.{Row}
use Rattle.road_segments.specs.declared.spots.Spot.{Spot}
use Rattle.road_segments.specs.declared.streets.Street.{Street}

-- a street that may not be used
abbrev pub no_street : Street
no_street = record { way = pos 0; name = []; classes = []; speed = 0; forward = false; backward = false; round = false }

-- the street of a number; one that may not be used stands past the end
abbrev pub street_at : List Street → ℕ → Street
street_at streets i = unwrap_or (slice_get streets i) (no_street)

-- the segment of a row
abbrev pub segment_in : List Street → Row → Segment
segment_in streets row = record {
  tail = row.tail;
  head = row.head;
  from = row.from;
  to = row.to;
  at_tail = row.at_tail;
  at_head = row.at_head;
  street = street_at streets row.street;
}

-- the segments of all rows
abbrev pub segments_in : List Street → List Row → List Segment
segments_in streets rows = map (segment_in streets) rows

-- each row has a street, and the rows are few
pub record AreRows (streets : List Street) (rows : List Row) : Type 0 where
  pub in_range : All (λ row. row.street < length streets) rows
  pub few : length rows ≤ most_segments

-- the new rows are the old ones and those along these nodes, all of one street
pub record AddsRows (spot : ℤ → Option Spot) (street : ℕ) (ids : List ℤ) (old new : List Row) : Type 0 where
  pub segments : (streets : List Street) → segments_in streets new ≡ segments_in streets old ++ segments_along spot (street_at streets street) ids
  pub in_range : (n : ℕ) → street < n → All (λ row. row.street < n) old → All (λ row. row.street < n) new

-- the rows of streets and the places of their ways
pub record AreRowsOf (spot : ℤ → Option Spot) (objects : List Object) (streets : List Street) (places : List ℕ) (rows : List Row) : Type 0 where
  pub segments : segments_in streets rows ≡ segments_on spot objects streets places
  pub in_range : All (λ row. row.street < length streets) rows
