-- Snapping: the place on a road that stands for a coordinate (this project's rule; OSRM's nearest service).
use Rattle.std.specs.Prelude.{◌≡◌, ℕ, ◌<◌, ◌≤◌, ◌⊎◌, List, Some}
use Rattle.std.specs.List.{slice_get}
use Rattle.road_base.specs.declared.segments.Place.{Place}
use Rattle.geo_integer.specs.Position.{Position}
use Rattle.search_graph.specs.declared.costs.WeightDurLen.{WeightDurLen}
use Rattle.search_graph.specs.Digraph.{Weighting}
use Rattle.road_segments.specs.Segment.{Segment}
use Rattle.snap_index.specs.Kept.{IsKept}
use Rattle.snap_index.specs.Nearest.{nearest_on, remoteness_of}
use Rattle.snap_index.specs.declared.filters.Filter.{Filter}

-- segment i, this remote, comes before or is segment j: the less remote first, the lower number at one remoteness
abbrev pub ComesFirst : ℕ → ℕ → ℕ → ℕ → Type 0
ComesFirst remote i other j = (remote < other) ⊎ ((remote ≡ other) × (i ≤ j))

-- the place is where a position is snapped to: the nearest one on the segment that comes first, of all that
-- are kept
pub record IsSnapped (segments : List Segment) (w : Weighting WeightDurLen) (filter : Filter) (from : Position) (place : Place) : Type 0 where
  pub segment : Segment
  pub is_segment : slice_get segments place.segment ≡ Some segment
  pub is_kept : IsKept w filter from place.segment segment
  pub nearest : place.at ≡ nearest_on segment from
  pub first : (s : ℕ) (other : Segment) → slice_get segments s ≡ Some other → IsKept w filter from s other → ComesFirst (remoteness_of from segment) place.segment (remoteness_of from other) s

-- no segment is kept, so the position has no place
abbrev pub HasNoPlace : List Segment → Weighting WeightDurLen → Filter → Position → Type 0
HasNoPlace segments w filter from = (s : ℕ) (other : Segment) → slice_get segments s ≡ Some other → ¬ IsKept w filter from s other
