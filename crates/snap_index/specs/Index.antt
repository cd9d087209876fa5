-- The crate's own: the index of a grid, and what it lets a search pass by.
use Rattle.std.specs.Prelude.{◌≡◌, ℕ, ◌/◌, ◌^◌, ◌<◌, ◌≤◌, ◌≤ℤ◌, ◌<ℤ◌, ◌⊎◌, List, Option, Some, None, FitsSigned, length}
use Rattle.std.specs.Int.{w32}
use Rattle.std.specs.List.{slice_get}
use Rattle.geo_integer.specs.Plane.{cosine_between}
use Rattle.geo_integer.specs.Position.{Position, position_of}
use Rattle.search_graph.specs.declared.costs.WeightDurLen.{WeightDurLen}
use Rattle.search_graph.specs.Digraph.{Weighting}
use Rattle.snap_index.specs.Candidates.{IsOpenLine, Stands, line_remoteness}
use Rattle.snap_index.specs.Kept.{IsInReach}
use Rattle.snap_index.specs.Nearest.{remoteness}
use Rattle.snap_index.specs.declared.candidates.Candidate.{Candidate}
use Rattle.snap_index.specs.declared.extents.Extent.{Extent}
use Rattle.snap_index.specs.declared.filters.Heading.{Heading}
use Rattle.snap_index.specs.declared.grids.SegmentEnds.{SegmentEnds}
use Rattle.snap_index.specs.declared.indexes.Index.{Index}

-- a position lies within an extent
pub record IsWithin (extent : Extent) (p : Position) : Type 0 where
  pub west : extent.west ≤ℤ p.lon
  pub east : p.lon ≤ℤ extent.east
  pub south : extent.south ≤ℤ p.lat
  pub north : p.lat ≤ℤ extent.north

-- both ends of a line do
pub record HasLine (extent : Extent) (line : SegmentEnds) : Type 0 where
  pub from : IsWithin extent (position_of line.from)
  pub to : IsWithin extent (position_of line.to)

-- the extent of this number has the line
abbrev pub HasAt : List Extent → ℕ → SegmentEnds → Type 0
HasAt extents k line = (extent : Extent) × (slice_get extents k ≡ Some extent) × HasLine extent line

-- the lines that are named at so many numbers of an order, one behind another, lie within one extent, the
-- next ones within the next extent
abbrev pub Cover : ℕ → List SegmentEnds → List ℕ → List Extent → Type 0
Cover size lines order extents = (i s : ℕ) (line : SegmentEnds) → slice_get order i ≡ Some s → slice_get lines s ≡ Some line → HasAt extents (i / size) line

-- each segment has a number in the order, and no others do
pub record IsOrder (lines : List SegmentEnds) (order : List ℕ) : Type 0 where
  pub each : (s : ℕ) → s < length lines → (i : ℕ) × (slice_get order i ≡ Some s)
  pub others : (i s : ℕ) → slice_get order i ≡ Some s → s < length lines

pub record IsIndexOf (lines : List SegmentEnds) (index : Index) : Type 0 where
  pub few : length lines < 2 ^ 30
  pub order : IsOrder lines index.order.items
  pub leaves : Cover 16 lines index.order.items index.leaves.items
  pub blocks : Cover 256 lines index.order.items index.blocks.items
  pub groups : Cover 4096 lines index.order.items index.groups.items

-- what is that remote lies farther away than so far; nothing does where nothing is too far
abbrev pub IsFarther : Option ℕ → ℕ → Type 0
IsFarther None remote = ⊥
IsFarther (Some far) remote = far < remote

-- a cosine that is no greater than that half-way to any spot that isn't farther away than so far
abbrev pub IsLeastCosine : Position → ℕ → Option ℕ → Type 0
IsLeastCosine from cosine reach = (spot : Position) → IsInReach reach (remoteness from spot) → cosine ≤ cosine_between from spot

-- each spot within an extent lies farther away than so far, if the cosine half-way is no less than this
abbrev pub IsBeyond : Position → ℕ → Option ℕ → Extent → Type 0
IsBeyond from cosine far extent = (spot : Position) → IsWithin extent spot → cosine ≤ cosine_between from spot → IsFarther far (remoteness from spot)

-- a line lies within an extent that does so
abbrev pub IsLineBeyond : Position → ℕ → Option ℕ → SegmentEnds → Type 0
IsLineBeyond from cosine far line = (extent : Extent) × HasLine extent line × IsBeyond from cosine far extent

-- both coordinates of a position have 32 bits
pub record Fits (p : Position) : Type 0 where
  pub lon : FitsSigned w32 p.lon
  pub lat : FitsSigned w32 p.lat

-- such a position lies outside of a frame: south, north, west or east of it
abbrev pub IsOutside : Extent → Position → Type 0
IsOutside frame p = Fits p × (((p.lat <ℤ frame.south) ⊎ (frame.north <ℤ p.lat)) ⊎ ((p.lon <ℤ frame.west) ⊎ (frame.east <ℤ p.lon)))

-- each spot outside of a frame lies farther away than so far, if the cosine half-way is no less than this
abbrev pub IsFrameOf : Position → ℕ → Option ℕ → Extent → Type 0
IsFrameOf from cosine far frame = (spot : Position) → IsOutside frame spot → cosine ≤ cosine_between from spot → IsFarther far (remoteness from spot)

-- each such spot lies out of reach, or stands behind all slots
abbrev pub IsFrame : Position → ℕ → Option ℕ → List (Option Candidate) → Extent → Type 0
IsFrame from cosine reach slots frame = (spot : Position) (s : ℕ) → IsOutside frame spot → cosine ≤ cosine_between from spot → IsFarther reach (remoteness from spot) ⊎ Stands (remoteness from spot) s slots

-- a line lies within an extent that is outside of a frame
abbrev pub IsPassed : Extent → SegmentEnds → Type 0
IsPassed frame line = (extent : Extent) × HasLine extent line × ((p : Position) → IsWithin extent p → IsOutside frame p)

-- segment s isn't open, or lies out of reach, or stands in the slots
abbrev pub IsJudged : List SegmentEnds → Weighting WeightDurLen → Option Heading → Position → Option ℕ → List (Option Candidate) → ℕ → Type 0
IsJudged lines w heading from reach slots s = (line : SegmentEnds) → slice_get lines s ≡ Some line → IsOpenLine w heading s line
    → IsFarther reach (line_remoteness from line) ⊎ Stands (line_remoteness from line) s slots

-- each segment is judged that an order names from one number on and below another
abbrev pub AreJudged : List SegmentEnds → Weighting WeightDurLen → Option Heading → Position → Option ℕ → List ℕ → ℕ → ℕ → List (Option Candidate) → Type 0
AreJudged lines w heading from reach order low high slots = (i s : ℕ) → low ≤ i → i < high → slice_get order i ≡ Some s → IsJudged lines w heading from reach slots s
