-- What a search passes by, and what it has looked at.
use Rattle.std.proofs.Common.{◌≡◌, ℕ, ◌+◌, ◌-◌, ◌*◌, ◌/◌, ◌<◌, ◌≤◌, ◌⊎◌, inl, inr, List, length, refl, sym, ap, subst, arith, ◌∙◌}
use Rattle.std.specs.Prelude.{ℤ, pos, negsuc, min, IfSome, ◌%◌, ◌≤ℤ◌, ◌-ℤ◌, Option, Some, None}
use Rattle.std.specs.List.{slice_get}
use Rattle.std.proofs.Math.Nat.{div-lt_iff_lt-mul}
use Rattle.std.proofs.lemmas.Bool.{cases_lt}
use Rattle.std.proofs.lemmas.Bool.Decides.{nat_tests}
use Rattle.std.proofs.lemmas.Int.{ints}
use Rattle.std.proofs.lemmas.Nat.{div-mul-add, div-add-mod'}
use Rattle.std.proofs.lemmas.Option.{same_Some, slice_get_within}
use Rattle.geo_integer.specs.Plane.{plane_between}
use Rattle.geo_integer.specs.Position.{Position, position_of}
use Rattle.geo_integer.specs.Project.{IsBetween, coordinate_at, part_of, place_of, position_at, scalar_product, share_of}
use Rattle.list_lemmas.proofs.Between.{between-add, between-part}
use Rattle.search_graph.specs.declared.costs.WeightDurLen.{WeightDurLen}
use Rattle.search_graph.specs.Digraph.{Weighting}
use Rattle.snap_index.specs.Candidates.{Ascend, IsCandidate, IsOnLine, IsOpenLine, LastIs, Stands, StandsOn, line_remoteness}
use Rattle.snap_index.specs.Index.{AreJudged, HasLine, IsBeyond, IsFarther, IsFrame, IsJudged, IsLeastCosine, IsOrder, IsPassed, IsWithin}
use Rattle.snap_index.specs.Kept.{IsInReach}
use Rattle.snap_index.specs.Nearest.{remoteness}
use Rattle.snap_index.specs.declared.candidates.Candidate.{Candidate}
use Rattle.snap_index.specs.declared.extents.Extent.{Extent}
use Rattle.snap_index.specs.declared.filters.Heading.{Heading}
use Rattle.snap_index.specs.declared.grids.SegmentEnds.{SegmentEnds}
use Rattle.snap_index.proofs.SlotLemmas.{behind-last}

part-bound : (p n : ℕ) → p < n → (2048 * p + n) / (2 * n) ≤ 1024
part-bound p n h =
    let some : 0 < 2 * n = omega arith in
    let below : 2048 * p + n < 1025 * (2 * n) = omega arith in
    let less : (2048 * p + n) / (2 * n) < 1025 = (div-lt_iff_lt-mul {k = 2 * n} {x = 2048 * p + n} {y = 1025} some).1 below in
    omega arith

-- a share is at most the whole
pub share-bound : (z : ℤ) (n : ℕ) → share_of z n ≤ 1024
share-bound (negsuc p) n = omega arith
share-bound (pos p) n = grind (arith, nat_tests, part-bound)

between-low : (low a b y : ℤ) → low ≤ℤ a → low ≤ℤ b → IsBetween a b y → low ≤ℤ y
between-low low a b y h g between = elim between as (λ _. low ≤ℤ y) [ inl up ↦ omega (arith, ints, up.0) | inr down ↦ omega (arith, ints, down.0) ]

between-high : (high a b y : ℤ) → a ≤ℤ high → b ≤ℤ high → IsBetween a b y → y ≤ℤ high
between-high high a b y h g between = elim between as (λ _. y ≤ℤ high) [ inl up ↦ omega (arith, ints, up.1) | inr down ↦ omega (arith, ints, down.1) ]

coordinate-between : (a b : ℤ) (at : ℕ) → at ≤ 1024 → IsBetween a b (coordinate_at a b at)
coordinate-between a b at h = between-add a b (part_of (b -ℤ a) at) (between-part (b -ℤ a) at h)

-- the nearest spot on a line
abbrev pub line_spot : Position → SegmentEnds → Position
line_spot from line = position_at (position_of line.from) (position_of line.to) (place_of from (position_of line.from) (position_of line.to))

-- it lies within the extent of the line
pub spot-within : (extent : Extent) (from : Position) (line : SegmentEnds) → HasLine extent line → IsWithin extent (line_spot from line)
spot-within extent from line h =
    let small = share-bound (scalar_product from (position_of line.from) (position_of line.to)) (plane_between (position_of line.from) (position_of line.to)) in
    let at = place_of from (position_of line.from) (position_of line.to) in
    let lon = coordinate-between line.from.lon line.to.lon at small in
    let lat = coordinate-between line.from.lat line.to.lat at small in
    record {
      west = between-low extent.west line.from.lon line.to.lon (line_spot from line).lon h.from.west h.to.west lon;
      east = between-high extent.east line.from.lon line.to.lon (line_spot from line).lon h.from.east h.to.east lon;
      south = between-low extent.south line.from.lat line.to.lat (line_spot from line).lat h.from.south h.to.south lat;
      north = between-high extent.north line.from.lat line.to.lat (line_spot from line).lat h.from.north h.to.north lat;
    }

-- what lies out of reach or within it
reach-cases : (reach : Option ℕ) (remote : ℕ) → IsFarther reach remote ⊎ IsInReach reach remote
reach-cases None remote = inr tt
reach-cases (Some far) remote = cases_lt far remote

-- a line that can be passed by lies out of reach, or stands behind all slots
pub passed-judged : (from : Position) (cosine : ℕ) (reach : Option ℕ) (slots : List (Option Candidate)) (frame : Extent) (line : SegmentEnds) (s : ℕ)
    → IsPassed frame line → IsLeastCosine from cosine reach → IsFrame from cosine reach slots frame
    → IsFarther reach (line_remoteness from line) ⊎ Stands (line_remoteness from line) s slots
passed-judged from cosine reach slots frame line s passed least h =
    elim (reach-cases reach (line_remoteness from line)) [
      | inl out ↦ inl out
      | inr near ↦ h (line_spot from line) s (passed.2 (line_spot from line) (spot-within passed.0 from line passed.1)) (least (line_spot from line) near)
    ]

-- a line all of which lies beyond does so too
pub beyond-judged : (from : Position) (cosine : ℕ) (reach far : Option ℕ) (slots : List (Option Candidate)) (extent : Extent) (line : SegmentEnds) (s : ℕ)
    → HasLine extent line → IsBeyond from cosine far extent → IsLeastCosine from cosine reach → ((remote t : ℕ) → IsFarther far remote → IsFarther reach remote ⊎ Stands remote t slots)
    → IsFarther reach (line_remoteness from line) ⊎ Stands (line_remoteness from line) s slots
beyond-judged from cosine reach far slots extent line s has beyond least h =
    elim (reach-cases reach (line_remoteness from line)) [
      | inl out ↦ inl out
      | inr near ↦ h (line_remoteness from line) s (beyond (line_spot from line) (spot-within extent from line has) (least (line_spot from line) near))
    ]

-- a frame serves on while segments are put into the slots
pub frame-stays : (from : Position) (cosine : ℕ) (reach : Option ℕ) (old new : List (Option Candidate)) (frame : Extent) → StandsOn old new → IsFrame from cosine reach old frame → IsFrame from cosine reach new frame
frame-stays from cosine reach old new frame stay h = λ spot s out cos. elim (h spot s out cos) [ inl far ↦ inl far | inr stands ↦ inr (stay (remoteness from spot) s stands) ]

module _ (lines : List SegmentEnds) (w : Weighting WeightDurLen) (heading : Option Heading) (from : Position) where
  -- a segment that was judged stays so
  judged-stays : (reach : Option ℕ) (old new : List (Option Candidate)) (s : ℕ) → StandsOn old new → IsJudged lines w heading from reach old s → IsJudged lines w heading from reach new s
  judged-stays reach old new s stay h = λ line is drivable. elim (h line is drivable) [ inl out ↦ inl out | inr stands ↦ inr (stay (line_remoteness from line) s stands) ]

  -- what stands in the slots is judged for each reach
  pub judged-near : (reach : Option ℕ) (slots : List (Option Candidate)) (s : ℕ) → IsJudged lines w heading from None slots s → IsJudged lines w heading from reach slots s
  judged-near reach slots s h = λ line is drivable. elim (h line is drivable) [ inl out ↦ absurd out | inr stands ↦ inr stands ]

  -- more of the order was judged
  pub judged-more : (reach : Option ℕ) (order : List ℕ) (low at next : ℕ) (old new : List (Option Candidate)) → AreJudged lines w heading from reach order low at old → StandsOn old new
      → AreJudged lines w heading from reach order at next new → AreJudged lines w heading from reach order low next new
  judged-more reach order low at next old new h stay g = λ i s least high is. elim (cases_lt i at) [
    | inl lt ↦ judged-stays reach old new s stay (h i s least lt is)
    | inr ge ↦ g i s ge high is
  ]

  -- there is nothing behind the order
  pub judged-end : (reach : Option ℕ) (order : List ℕ) (low at high : ℕ) (slots : List (Option Candidate)) → min (length order) high ≤ at → AreJudged lines w heading from reach order low at slots
      → AreJudged lines w heading from reach order low high slots
  judged-end reach order low at high slots all h = λ i s least most is. let lt = slice_get_within order i s is in h i s least (omega (arith, lt, most, all)) is

  -- one number of the order was
  pub judged-one : (reach : Option ℕ) (order : List ℕ) (at segment : ℕ) (slots : List (Option Candidate)) → slice_get order at ≡ Some segment → IsJudged lines w heading from reach slots segment
      → AreJudged lines w heading from reach order at (at + 1) slots
  judged-one reach order at segment slots e h = λ i s low high is.
      let same : at ≡ i = omega (arith, low, high) in
      let one : segment ≡ s = same_Some segment s (sym e ∙ subst (λ j. slice_get order j ≡ Some s) (sym same) is) in
      subst (λ t. IsJudged lines w heading from reach slots t) one h

  -- all of it was
  pub judged-all : (reach : Option ℕ) (order : List ℕ) (at : ℕ) (slots : List (Option Candidate)) → IsOrder lines order → length order ≤ at → AreJudged lines w heading from reach order 0 at slots
      → (s : ℕ) → IsJudged lines w heading from reach slots s
  judged-all reach order at slots o all h s = λ line is drivable.
      let there = o.each s (slice_get_within lines s line is) in
      let lt = slice_get_within order there.0 s there.1 in
      h there.0 s (omega arith) (omega (arith, lt, all)) there.1 line is drivable

  -- where the last slot has what lies within reach, what lies out of reach stands behind all slots
  pub judged-enough : (reach : ℕ) (last : Option ℕ) (slots : List (Option Candidate)) → Ascend slots → IfSome last (λ n. LastIs n slots) → (n : ℕ) × (last ≡ Some n) × (n ≤ reach)
      → ((s : ℕ) → IsJudged lines w heading from (Some reach) slots s) → (s : ℕ) → IsJudged lines w heading from None slots s
  judged-enough reach last slots order is enough h s = λ line at drivable. elim (h s line at drivable) [
    | inl out ↦
        let le = enough.2 in
        let lt : enough.0 < line_remoteness from line = omega (arith, out, le) in
        inr (behind-last (line_remoteness from line) s (Some enough.0) slots order (subst (λ (o : Option ℕ). IfSome o (λ n. LastIs n slots)) enough.1 is) lt)
    | inr stands ↦ inr stands
  ]

  -- a line's candidate is one of the lines'
  pub candidate-of : (line : SegmentEnds) (s : ℕ) (c : Candidate) → slice_get lines s ≡ Some line → IsOpenLine w heading s line → IsOnLine line from s c → IsCandidate lines w heading from c
  candidate-of line s c is drivable on = record {
    line = line;
    is_line = ap (slice_get lines) on.is_number ∙ is;
    is_open = subst (λ t. IsOpenLine w heading t line) (sym on.is_number) drivable;
    on_line = record { is_number = refl; nearest = on.nearest; spot = on.spot; remote = on.remote };
  }

  -- a candidate that was put into the slots stands for its segment
  pub candidate-stands : (line : SegmentEnds) (s : ℕ) (c : Candidate) (slots : List (Option Candidate)) → slice_get lines s ≡ Some line → IsOnLine line from s c → Stands c.remoteness c.place.segment slots → IsJudged lines w heading from None slots s
  candidate-stands line s c slots is on stands = λ other at drivable.
      let same : line ≡ other = same_Some line other (sym is ∙ at) in
      let remote : c.remoteness ≡ line_remoteness from other = on.remote ∙ ap (line_remoteness from) same in
      inr (subst (λ r. Stands r s slots) remote (subst (λ t. Stands c.remoteness t slots) on.is_number stands))

  -- a segment with no drivable direction is judged
  pub closed-judged : (line : SegmentEnds) (s : ℕ) (slots : List (Option Candidate)) → slice_get lines s ≡ Some line → ¬ IsOpenLine w heading s line → IsJudged lines w heading from None slots s
  closed-judged line s slots is shut = λ other at drivable. absurd (shut (subst (λ (l : SegmentEnds). IsOpenLine w heading s l) (sym (same_Some line other (sym is ∙ at))) drivable))

-- numbers with one quotient
pub one-quotient : (at i size : ℕ) → 0 < size → at % size ≡ 0 → at ≤ i → i < at + size → i / size ≡ at / size
one-quotient at i size some whole low high =
    let e : at / size * size ≡ at = let q = div-add-mod' at size in omega (arith, q, whole) in
    let r : i ≡ at / size * size + (i - at) = omega (arith, e, low) in
    ap (λ n. n / size) r ∙ div-mul-add (at / size) size (i - at) (omega (arith, low, high))
