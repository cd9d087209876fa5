-- The nearest places of a position: of all segments that are kept the first ones, so many as are asked for
-- (this project's rule; the option `number` of OSRM's nearest service).
use Rattle.std.specs.Prelude.{◌≡◌, ℕ, ◌<◌, ◌≤◌, ◌⊎◌, List, [], ◌∷◌, Some, length}
use Rattle.std.specs.List.{AllByRecursion, slice_get}
use Rattle.geo_integer.specs.Position.{Position, position_of}
use Rattle.search_graph.specs.declared.costs.WeightDurLen.{WeightDurLen}
use Rattle.search_graph.specs.Digraph.{Weighting}
use Rattle.road_segments.specs.Segment.{Segment}
use Rattle.snap_index.specs.Kept.{IsKept, decimetres_between}
use Rattle.snap_index.specs.Nearest.{nearest_on, nearest_spot, remoteness, remoteness_of}
use Rattle.snap_index.specs.declared.filters.Filter.{Filter}
use Rattle.snap_index.specs.declared.snapping.Snapped.{Snapped}

-- segment i, this remote, comes before segment j: the less remote first, the lower number at one remoteness
abbrev pub ComesBefore : ℕ → ℕ → ℕ → ℕ → Type 0
ComesBefore remote i other j = (remote < other) ⊎ ((remote ≡ other) × (i < j))

-- the place is the nearest one on a segment that is kept, with the point where it lies and its distance
pub record IsFound (segments : List Segment) (w : Weighting WeightDurLen) (filter : Filter) (from : Position) (found : Snapped) : Type 0 where
  pub segment : Segment
  pub is_segment : slice_get segments found.place.segment ≡ Some segment
  pub is_kept : IsKept w filter from found.place.segment segment
  pub nearest : found.place.at ≡ nearest_on segment from
  pub point : position_of found.point ≡ nearest_spot segment from
  pub distance : found.distance ≡ decimetres_between from (nearest_spot segment from)

-- a place that was found comes before segment s, which is so remote
abbrev pub IsBefore : Position → ℕ → ℕ → Snapped → Type 0
IsBefore from remote s found = ComesBefore (remoteness from (position_of found.point)) found.place.segment remote s

-- each place comes before all behind it
abbrev pub AreInOrder : Position → List Snapped → Type 0
AreInOrder from [] = Unit {0}
AreInOrder from (first ∷ rest) =
    AllByRecursion (λ (other : Snapped). IsBefore from (remoteness from (position_of other.point)) other.place.segment first) rest × AreInOrder from rest

-- one of the places lies on segment s
abbrev pub IsAmong : ℕ → List Snapped → Type 0
IsAmong s [] = ⊥
IsAmong s (first ∷ rest) = (first.place.segment ≡ s) ⊎ IsAmong s rest

-- the places are the first ones: nearest places on kept segments, in their order, no more than `number`. A kept
-- segment that none of them lies on comes behind each of them, and then they are `number`
pub record AreFirsts (segments : List Segment) (w : Weighting WeightDurLen) (filter : Filter) (from : Position) (number : ℕ) (found : List Snapped) : Type 0 where
  pub each : AllByRecursion (IsFound segments w filter from) found
  pub order : AreInOrder from found
  pub at_most : length found ≤ number
  pub others : (s : ℕ) (other : Segment) → slice_get segments s ≡ Some other → IsKept w filter from s other
      → IsAmong s found ⊎ ((length found ≡ number) × AllByRecursion (IsBefore from (remoteness_of from other) s) found)
