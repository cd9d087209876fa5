-- The crate's own: the first segments so far in a list of a set length, whatever radius is asked for. Segments
-- are told by their lines here.
use Rattle.std.specs.Prelude.{◌≡◌, ℕ, ◌-◌, ◌&&◌, ◌||◌, ◌==◌, nat_le, nat_lt, if◌then◌else◌, ◌⊎◌, Bool, true, List, [], ◌∷◌, Option, Some, None, length}
use Rattle.std.specs.List.{AllByRecursion, slice_get}
use Rattle.geo_integer.specs.Position.{Position, position_of}
use Rattle.geo_integer.specs.Project.{place_of, position_at}
use Rattle.search_graph.specs.declared.costs.WeightDurLen.{WeightDurLen}
use Rattle.search_graph.specs.Digraph.{Weighting}
use Rattle.snap_index.specs.Firsts.{ComesBefore}
use Rattle.snap_index.specs.Kept.{HasDirection, decimetres_between}
use Rattle.snap_index.specs.Nearest.{remoteness}
use Rattle.snap_index.specs.declared.candidates.Candidate.{Candidate}
use Rattle.snap_index.specs.declared.filters.Heading.{Heading}
use Rattle.snap_index.specs.declared.grids.SegmentEnds.{SegmentEnds}
use Rattle.snap_index.specs.declared.snapping.Snapped.{Snapped}

-- how remote the place is that is nearest on a line
abbrev pub line_remoteness : Position → SegmentEnds → ℕ
line_remoteness from line = remoteness from (position_at (position_of line.from) (position_of line.to) (place_of from (position_of line.from) (position_of line.to)))

-- the candidate is the place nearest to a position on a line, which is segment s
pub record IsOnLine (line : SegmentEnds) (from : Position) (s : ℕ) (c : Candidate) : Type 0 where
  pub is_number : c.place.segment ≡ s
  pub nearest : c.place.at ≡ place_of from (position_of line.from) (position_of line.to)
  pub spot : position_of c.spot ≡ position_at (position_of line.from) (position_of line.to) c.place.at
  pub remote : c.remoteness ≡ line_remoteness from line

-- a line has an open direction of the heading
abbrev pub IsOpenLine : Weighting WeightDurLen → Option Heading → ℕ → SegmentEnds → Type 0
IsOpenLine w heading s line = HasDirection w heading s (position_of line.from) (position_of line.to)

-- the candidate is the nearest place on one of the lines, which has an open direction of the heading
pub record IsCandidate (lines : List SegmentEnds) (w : Weighting WeightDurLen) (heading : Option Heading) (from : Position) (c : Candidate) : Type 0 where
  pub line : SegmentEnds
  pub is_line : slice_get lines c.place.segment ≡ Some line
  pub is_open : IsOpenLine w heading c.place.segment line
  pub on_line : IsOnLine line from c.place.segment c

-- one candidate comes before another; each comes before a slot with none
abbrev pub Precedes : Candidate → Candidate → Type 0
Precedes c d = ComesBefore c.remoteness c.place.segment d.remoteness d.place.segment

abbrev pub PrecedesSlot : Candidate → Option Candidate → Type 0
PrecedesSlot c None = Unit {0}
PrecedesSlot c (Some d) = Precedes c d

abbrev pub IsEmptySlot : Option Candidate → Type 0
IsEmptySlot slot = slot ≡ None

abbrev pub IsSlot : List SegmentEnds → Weighting WeightDurLen → Option Heading → Position → Option Candidate → Type 0
IsSlot lines w heading from None = Unit {0}
IsSlot lines w heading from (Some c) = IsCandidate lines w heading from c

-- the candidates stand in their order, and slots with none come behind them
abbrev pub Ascend : List (Option Candidate) → Type 0
Ascend [] = Unit {0}
Ascend (None ∷ rest) = AllByRecursion IsEmptySlot rest
Ascend (Some c ∷ rest) = AllByRecursion (PrecedesSlot c) rest × Ascend rest

pub record AreSlots (lines : List SegmentEnds) (w : Weighting WeightDurLen) (heading : Option Heading) (from : Position) (slots : List (Option Candidate)) : Type 0 where
  pub each : AllByRecursion (IsSlot lines w heading from) slots
  pub order : Ascend slots

-- segment s, which is so remote, stands in a slot behind none but such as come before it; or all slots have
-- such
abbrev pub Stands : ℕ → ℕ → List (Option Candidate) → Type 0
Stands remote s [] = Unit {0}
Stands remote s (None ∷ rest) = ⊥
Stands remote s (Some c ∷ rest) = ((c.remoteness ≡ remote) × (c.place.segment ≡ s)) ⊎ (ComesBefore c.remoteness c.place.segment remote s × Stands remote s rest)

-- what stands in one list stands in the other
abbrev pub StandsOn : List (Option Candidate) → List (Option Candidate) → Type 0
StandsOn old new = (remote s : ℕ) → Stands remote s old → Stands remote s new

-- the last slot has a candidate, which is so remote
abbrev pub LastIs : ℕ → List (Option Candidate) → Type 0
LastIs last slots = (c : Candidate) × (slice_get slots (length slots - 1) ≡ Some (Some c)) × (c.remoteness ≡ last)

-- a candidate, put into its slot; those behind it move on by one, and the last one falls out
abbrev pub is_before : Candidate → Candidate → Bool
is_before c d = nat_lt c.remoteness d.remoteness || ((c.remoteness == d.remoteness) && nat_lt c.place.segment d.place.segment)

abbrev pub is_same : Candidate → Candidate → Bool
is_same c d = (c.remoteness == d.remoteness) && (c.place.segment == d.place.segment)

unfoldable pub with_candidate : Candidate → List (Option Candidate) → List (Option Candidate)
with_candidate c [] = []
with_candidate c (None ∷ rest) = Some c ∷ rest
with_candidate c (Some d ∷ rest) =
    if is_before c d then Some c ∷ with_candidate d rest
    else if is_same c d then Some d ∷ rest
    else Some d ∷ with_candidate c rest

-- a spot is near enough
abbrev pub is_near : Option ℕ → ℕ → Bool
is_near None far = true
is_near (Some radius) far = nat_le far radius

-- the places in the slots, up to the first that isn't filled or isn't near enough
unfoldable pub places_found : Option ℕ → Position → List (Option Candidate) → List Snapped
places_found radius from [] = []
places_found radius from (None ∷ rest) = []
places_found radius from (Some c ∷ rest) =
    if is_near radius (decimetres_between from (position_of c.spot))
    then record { place = c.place; point = c.spot; distance = decimetres_between from (position_of c.spot) } ∷ places_found radius from rest
    else []
