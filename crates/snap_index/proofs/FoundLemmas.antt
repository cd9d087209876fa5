-- The places in the slots of a search.
use Rattle.std.proofs.Common.{◌≡◌, ℕ, ◌+◌, ◌<◌, ◌≤◌, ◌⊎◌, inl, inr, true, false, List, [], ◌∷◌, ◌++◌, length, drop, suc, refl, sym, ap, subst, arith, ◌∙◌}
use Rattle.std.specs.Prelude.{IfOk, Option, Some, None, Result, Ok, Err, option_map}
use Rattle.std.specs.List.{AllByRecursion, slice_get}
use Rattle.std.proofs.lemmas.Bool.Decides.{nat_tests}
use Rattle.std.proofs.lemmas.List.{append_assoc}
use Rattle.std.proofs.lemmas.Option.{same_Some, slice_get-map, slice_get_within}
use Rattle.geo_integer.specs.Plane.{distance_of, plane_between}
use Rattle.geo_integer.specs.Position.{Position, position_of}
use Rattle.geo_integer.specs.Project.{place_of, position_at, scalar_product}
use Rattle.search_graph.specs.declared.costs.WeightDurLen.{WeightDurLen}
use Rattle.search_graph.specs.Digraph.{Weighting}
use Rattle.road_segments.specs.Segment.{Segment}
use Rattle.snap_index.specs.Candidates.{AreSlots, Ascend, IsCandidate, IsSlot, PrecedesSlot, Stands, is_near, line_remoteness, places_found}
use Rattle.snap_index.specs.Ends.{all_ends, ends_of}
use Rattle.snap_index.specs.Firsts.{AreFirsts, AreInOrder, ComesBefore, IsAmong, IsBefore, IsFound}
use Rattle.snap_index.specs.Index.{IsJudged}
use Rattle.snap_index.specs.Kept.{HasDirection, IsInReach, decimetres_between}
use Rattle.snap_index.specs.Nearest.{nearest_on, nearest_spot, remoteness, remoteness_of, spot_on}
use Rattle.snap_index.specs.Snapped.{ComesFirst, HasNoPlace, IsSnapped}
use Rattle.snap_index.specs.declared.candidates.Candidate.{Candidate}
use Rattle.snap_index.specs.declared.filters.Filter.{Filter}
use Rattle.snap_index.specs.declared.filters.Heading.{Heading}
use Rattle.snap_index.specs.declared.grids.SegmentEnds.{SegmentEnds}
use Rattle.snap_index.specs.declared.snapping.Snapped.{Snapped}
use Rattle.snap_index.proofs.Farther.{decimetres-grow}
use Rattle.snap_index.proofs.JudgeLemmas.{share-bound}
use Rattle.snap_index.proofs.SlotLemmas.{drop-all, drop-get}

-- whether a spot is near enough
pub near-true : (radius : Option ℕ) (far : ℕ) → IsInReach radius far → is_near radius far ≡ true
near-true None far h = refl
near-true (Some r) far h = grind (arith, nat_tests)

pub near-false : (radius : Option ℕ) (far : ℕ) → ¬ IsInReach radius far → is_near radius far ≡ false
near-false None far h = absurd (h tt)
near-false (Some r) far h = grind (arith, nat_tests)

near-reach : (radius : Option ℕ) (far : ℕ) → is_near radius far ≡ true → IsInReach radius far
near-reach None far h = tt
near-reach (Some r) far h = grind (arith, nat_tests)

-- the place of a candidate
abbrev pub snapped_of : Position → Candidate → Snapped
snapped_of from c = record { place = c.place; point = c.spot; distance = decimetres_between from (position_of c.spot) }

module _ (radius : Option ℕ) (from : Position) where
  places-empty : (rest : List (Option Candidate)) → places_found radius from (None ∷ rest) ≡ []
  unfolding places_found
  places-empty rest = refl

  places-far : (c : Candidate) (rest : List (Option Candidate)) → is_near radius (decimetres_between from (position_of c.spot)) ≡ false → places_found radius from (Some c ∷ rest) ≡ []
  unfolding places_found
  places-far c rest h = rw h refl

  places-near : (c : Candidate) (rest : List (Option Candidate)) → is_near radius (decimetres_between from (position_of c.spot)) ≡ true → places_found radius from (Some c ∷ rest) ≡ snapped_of from c ∷ places_found radius from rest
  unfolding places_found
  places-near c rest h = rw h refl

  places-none : places_found radius from [] ≡ []
  unfolding places_found
  places-none = refl

  module _ (slots : List (Option Candidate)) (i : ℕ) where
    stop : (front all : List Snapped) (back : List (Option Candidate)) → drop i slots ≡ back → places_found radius from back ≡ [] → front ++ places_found radius from (drop i slots) ≡ all → front ≡ all
    stop front all back e none h = sym (append-none front) ∙ ap (λ (l : List Snapped). front ++ l) (sym none ∙ ap (places_found radius from) (sym e)) ∙ h
      where
        append-none : (l : List Snapped) → l ++ [] ≡ l
        append-none [] = refl
        append-none (x ∷ xs) = ap (λ (l : List Snapped). x ∷ l) (append-none xs)

    pub found-empty : (front all : List Snapped) → slice_get slots i ≡ Some None → front ++ places_found radius from (drop i slots) ≡ all → front ≡ all
    found-empty front all e h = stop front all (None ∷ drop (i + 1) slots) (drop-get slots i None e) (places-empty (drop (i + 1) slots)) h

    pub found-end : (front all : List Snapped) → length slots ≤ i → front ++ places_found radius from (drop i slots) ≡ all → front ≡ all
    found-end front all e h = stop front all [] (drop-all slots i e) places-none h

    pub found-far : (c : Candidate) (front all : List Snapped) → slice_get slots i ≡ Some (Some c) → is_near radius (decimetres_between from (position_of c.spot)) ≡ false
        → front ++ places_found radius from (drop i slots) ≡ all → front ≡ all
    found-far c front all e far h = stop front all (Some c ∷ drop (i + 1) slots) (drop-get slots i (Some c) e) (places-far c (drop (i + 1) slots) far) h

    pub found-near : (c : Candidate) (front next all : List Snapped) → slice_get slots i ≡ Some (Some c) → is_near radius (decimetres_between from (position_of c.spot)) ≡ true
        → next ≡ front ++ snapped_of from c ∷ [] → front ++ places_found radius from (drop i slots) ≡ all → next ++ places_found radius from (drop (i + 1) slots) ≡ all
    found-near c front next all e near pushed h =
        ap (λ (l : List Snapped). l ++ places_found radius from (drop (i + 1) slots)) pushed
        ∙ append_assoc front (snapped_of from c ∷ []) (places_found radius from (drop (i + 1) slots))
        ∙ ap (λ (l : List Snapped). front ++ l) (sym (places-near c (drop (i + 1) slots) near) ∙ ap (places_found radius from) (sym (drop-get slots i (Some c) e)))
        ∙ h

-- a result that is none of memory
pub if-ok : {T E : Type 0} (r : Result T E) (P Q : T → Type 0) → ((x : T) → P x → Q x) → IfOk r P → IfOk r Q
if-ok (Ok x) P Q f h = f x h
if-ok (Err e) P Q f h = tt

pub decimetres-are : (from spot : Position) → distance_of from spot ≡ decimetres_between from spot
unfolding decimetres_between
decimetres-are from spot = refl

-- a candidate by its segment
pub record IsOnSegment (segments : List Segment) (w : Weighting WeightDurLen) (heading : Option Heading) (from : Position) (c : Candidate) : Type 0 where
  pub segment : Segment
  pub is_segment : slice_get segments c.place.segment ≡ Some segment
  pub is_open : HasDirection w heading c.place.segment (position_of segment.from) (position_of segment.to)
  pub nearest : c.place.at ≡ nearest_on segment from
  pub spot : position_of c.spot ≡ nearest_spot segment from
  pub remote : c.remoteness ≡ remoteness from (position_of c.spot)

-- the spot on a segment by its ends
spot-by : (x : Segment) (at : ℕ) → spot_on x at ≡ position_at (position_of x.from) (position_of x.to) at
unfolding spot_on
spot-by x at = refl

nearest-by : (x : Segment) (from : Position) → nearest_on x from ≡ place_of from (position_of x.from) (position_of x.to)
unfolding nearest_on
nearest-by x from = refl

-- the nearest spot on a line and on its segment
spot-on : (x : Segment) (from : Position) → position_at (position_of x.from) (position_of x.to) (place_of from (position_of x.from) (position_of x.to)) ≡ nearest_spot x from
spot-on x from = ap (position_at (position_of x.from) (position_of x.to)) (sym (nearest-by x from)) ∙ sym (spot-by x (nearest_on x from))

pub remote-on : (x : Segment) (from : Position) → line_remoteness from (ends_of x) ≡ remoteness_of from x
remote-on x from = ap (remoteness from) (spot-on x from)

line-segment : (o : Option Segment) (line : SegmentEnds) → option_map ends_of o ≡ Some line → (x : Segment) × (o ≡ Some x) × (ends_of x ≡ line)
line-segment None line q = absurd cc
line-segment (Some x) line q = (x, refl, same_Some (ends_of x) line q)

module _ (segments : List Segment) (w : Weighting WeightDurLen) (heading : Option Heading) (from : Position) where
  pub on-segment : (c : Candidate) → IsCandidate (all_ends segments) w heading from c → IsOnSegment segments w heading from c
  on-segment c h =
      let there = line-segment (slice_get segments c.place.segment) h.line (sym (slice_get-map ends_of segments c.place.segment) ∙ h.is_line) in
      let x = there.0 in
      let nearest : c.place.at ≡ place_of from (position_of x.from) (position_of x.to) = h.on_line.nearest ∙ ap (λ (l : SegmentEnds). place_of from (position_of l.from) (position_of l.to)) (sym there.2) in
      let spot : position_of c.spot ≡ position_at (position_of x.from) (position_of x.to) c.place.at = h.on_line.spot ∙ ap (λ (l : SegmentEnds). position_at (position_of l.from) (position_of l.to) c.place.at) (sym there.2) in
      let here : position_of c.spot ≡ nearest_spot x from = spot ∙ ap (position_at (position_of x.from) (position_of x.to)) nearest ∙ spot-on x from in
      record {
        segment = x;
        is_segment = there.1;
        is_open = subst (λ (l : SegmentEnds). HasDirection w heading c.place.segment (position_of l.from) (position_of l.to)) (sym there.2) h.is_open;
        nearest = nearest ∙ sym (nearest-by x from);
        spot = here;
        remote = h.on_line.remote ∙ ap (line_remoteness from) (sym there.2) ∙ remote-on x from ∙ ap (remoteness from) (sym here);
      }

  -- a kept segment stands in the slots
  pub kept-stands : (radius : Option ℕ) (slots : List (Option Candidate)) → ((s : ℕ) → IsJudged (all_ends segments) w heading from None slots s)
      → (s : ℕ) (other : Segment) → slice_get segments s ≡ Some other → HasDirection w heading s (position_of other.from) (position_of other.to) → Stands (remoteness_of from other) s slots
  kept-stands radius slots h s other is drivable =
      elim (h s (ends_of other) (slice_get-map ends_of segments s ∙ ap (option_map ends_of) is) drivable) as (λ _. Stands (remoteness_of from other) s slots) [
        | inl out ↦ absurd out
        | inr stands ↦ subst (λ r. Stands r s slots) (remote-on other from) stands
      ]

reach-shrinks : (radius : Option ℕ) (near far : ℕ) → near ≤ far → IsInReach radius far → IsInReach radius near
reach-shrinks None near far le g = tt
reach-shrinks (Some r) near far le g = omega (arith, le, g)

module _ (segments : List Segment) (w : Weighting WeightDurLen) (filter : Filter) (from : Position) where
  -- what is no more remote than a kept segment is in reach
  reach-before : (c : Candidate) (other : Segment) → IsOnSegment segments w filter.heading from c → c.remoteness ≤ remoteness_of from other
      → IsInReach filter.radius (decimetres_between from (nearest_spot other from)) → IsInReach filter.radius (decimetres_between from (position_of c.spot))
  reach-before c other on le g =
      let less : remoteness from (position_of c.spot) ≤ remoteness_of from other = subst (λ r. r ≤ remoteness_of from other) on.remote le in
      reach-shrinks filter.radius (decimetres_between from (position_of c.spot)) (decimetres_between from (nearest_spot other from)) (decimetres-grow from (position_of c.spot) (nearest_spot other from) less) g

  before-least : (a i b j : ℕ) → ComesBefore a i b j → a ≤ b
  before-least a i b j h = elim h as (λ _. a ≤ b) [ inl lt ↦ omega (arith, lt) | inr e ↦ let q = e.0 in omega (arith, q) ]

  is-found : (c : Candidate) → IsOnSegment segments w filter.heading from c → is_near filter.radius (decimetres_between from (position_of c.spot)) ≡ true → IsFound segments w filter from (snapped_of from c)
  is-found c on near = record {
    segment = on.segment;
    is_segment = on.is_segment;
    is_kept = (on.is_open, subst (λ (p : Position). IsInReach filter.radius (decimetres_between from p)) on.spot (near-reach filter.radius (decimetres_between from (position_of c.spot)) near));
    nearest = on.nearest;
    point = on.spot;
    distance = ap (decimetres_between from) on.spot;
  }

  -- of the places that are near enough, and of nothing where one isn't
  by-near : (P : List Snapped → Type 0) (c : Candidate) (rest : List (Option Candidate)) → P []
      → (is_near filter.radius (decimetres_between from (position_of c.spot)) ≡ true → P (snapped_of from c ∷ places_found filter.radius from rest)) → P (places_found filter.radius from (Some c ∷ rest))
  by-near P c rest none some = (elim (is_near filter.radius (decimetres_between from (position_of c.spot))) as (λ b. is_near filter.radius (decimetres_between from (position_of c.spot)) ≡ b → P (places_found filter.radius from (Some c ∷ rest))) [
    | true ↦ λ near. subst P (sym (places-near filter.radius from c rest near)) (some near)
    | false ↦ λ far. subst P (sym (places-far filter.radius from c rest far)) none
  ]) refl

  found-all : (Q : Option Candidate → Type 0) (P : Snapped → Type 0)
      → ((c : Candidate) → IsOnSegment segments w filter.heading from c → Q (Some c) → is_near filter.radius (decimetres_between from (position_of c.spot)) ≡ true → P (snapped_of from c))
      → (slots : List (Option Candidate)) → AllByRecursion (IsSlot (all_ends segments) w filter.heading from) slots → AllByRecursion Q slots → AllByRecursion P (places_found filter.radius from slots)
  found-all Q P f [] all q = subst (λ (l : List Snapped). AllByRecursion P l) (sym (places-none filter.radius from)) tt
  found-all Q P f (None ∷ rest) all q = subst (λ (l : List Snapped). AllByRecursion P l) (sym (places-empty filter.radius from rest)) tt
  found-all Q P f (Some c ∷ rest) all q = by-near (λ (l : List Snapped). AllByRecursion P l) c rest tt
      (λ near. (f c (on-segment segments w filter.heading from c all.0) q.0 near, found-all Q P f rest all.1 q.1))

  anything : (slots : List (Option Candidate)) → AllByRecursion (λ (slot : Option Candidate). Unit {0}) slots
  anything [] = tt
  anything (slot ∷ rest) = (tt, anything rest)

  -- each place that was found is the nearest one on a kept segment
  pub found-each : (slots : List (Option Candidate)) → AllByRecursion (IsSlot (all_ends segments) w filter.heading from) slots → AllByRecursion (IsFound segments w filter from) (places_found filter.radius from slots)
  found-each slots all = found-all (λ slot. Unit {0}) (IsFound segments w filter from) (λ c on _ near. is-found c on near) slots all (anything slots)

  -- they are in their order
  pub found-order : (slots : List (Option Candidate)) → AllByRecursion (IsSlot (all_ends segments) w filter.heading from) slots → Ascend slots → AreInOrder from (places_found filter.radius from slots)
  found-order [] all up = subst (λ (l : List Snapped). AreInOrder from l) (sym (places-none filter.radius from)) tt
  found-order (None ∷ rest) all up = subst (λ (l : List Snapped). AreInOrder from l) (sym (places-empty filter.radius from rest)) tt
  found-order (Some c ∷ rest) all up = by-near (λ (l : List Snapped). AreInOrder from l) c rest tt
      (λ near.
      let on = on-segment segments w filter.heading from c all.0 in (
        found-all (PrecedesSlot c) (λ (other : Snapped). IsBefore from (remoteness from (position_of other.point)) other.place.segment (snapped_of from c))
            (λ d at p _. subst (λ r. ComesBefore (remoteness from (position_of c.spot)) c.place.segment r d.place.segment) at.remote (subst (λ r. ComesBefore r c.place.segment d.remoteness d.place.segment) on.remote p))
            rest all.1 up.0,
        found-order rest all.1 up.1,
      ))

  pub found-length : (slots : List (Option Candidate)) → length (places_found filter.radius from slots) ≤ length slots
  found-length [] = subst (λ (l : List Snapped). length l ≤ 0) (sym (places-none filter.radius from)) (omega arith)
  found-length (None ∷ rest) = subst (λ (l : List Snapped). length l ≤ suc (length rest)) (sym (places-empty filter.radius from rest)) (omega arith)
  found-length (Some c ∷ rest) = by-near (λ (l : List Snapped). length l ≤ suc (length rest)) c rest (omega arith) (λ near. let less = found-length rest in omega (arith, less))

  -- a kept segment that stands in the slots was found, or comes behind all that were
  pub found-others : (slots : List (Option Candidate)) (s : ℕ) (other : Segment) → AllByRecursion (IsSlot (all_ends segments) w filter.heading from) slots
      → Stands (remoteness_of from other) s slots → IsInReach filter.radius (decimetres_between from (nearest_spot other from))
      → IsAmong s (places_found filter.radius from slots) ⊎ ((length (places_found filter.radius from slots) ≡ length slots) × AllByRecursion (IsBefore from (remoteness_of from other) s) (places_found filter.radius from slots))
  found-others [] s other all stands g = inr (subst (λ (l : List Snapped). (length l ≡ 0) × AllByRecursion (IsBefore from (remoteness_of from other) s) l) (sym (places-none filter.radius from)) (refl, tt))
  found-others (None ∷ rest) s other all stands g = absurd stands
  found-others (Some c ∷ rest) s other all stands g =
      let on = on-segment segments w filter.heading from c all.0 in
      let P : List Snapped → Type 0 = λ (l : List Snapped). IsAmong s l ⊎ ((length l ≡ suc (length rest)) × AllByRecursion (IsBefore from (remoteness_of from other) s) l) in
      let go : c.remoteness ≤ remoteness_of from other → P (snapped_of from c ∷ places_found filter.radius from rest) → P (places_found filter.radius from (Some c ∷ rest)) = λ le p.
      subst P (sym (places-near filter.radius from c rest (near-true filter.radius (decimetres_between from (position_of c.spot)) (reach-before c other on le g)))) p in
      elim stands as (λ _. P (places_found filter.radius from (Some c ∷ rest))) [
        | inl e ↦ go (let q = e.0 in omega (arith, q)) (inl (inl e.1))
        | inr p ↦ go (before-least c.remoteness c.place.segment (remoteness_of from other) s p.0) (elim (found-others rest s other all.1 p.1 g) as (λ _. P (snapped_of from c ∷ places_found filter.radius from rest)) [
          | inl among ↦ inl (inr among)
          | inr behind ↦ inr (ap suc behind.0, (subst (λ r. ComesBefore r c.place.segment (remoteness_of from other) s) on.remote p.0, behind.1))
        ])
      ]

  -- the places that were found are the first ones
  pub firsts-are : (number : ℕ) (slots : List (Option Candidate)) → length slots ≡ number → AreSlots (all_ends segments) w filter.heading from slots → ((s : ℕ) → IsJudged (all_ends segments) w filter.heading from None slots s)
      → AreFirsts segments w filter from number (places_found filter.radius from slots)
  firsts-are number slots n are judged = record {
    each = found-each slots are.each;
    order = found-order slots are.each are.order;
    at_most = subst (λ k. length (places_found filter.radius from slots) ≤ k) n (found-length slots);
    others = λ s other is kept.
        subst (λ k. IsAmong s (places_found filter.radius from slots) ⊎ ((length (places_found filter.radius from slots) ≡ k) × AllByRecursion (IsBefore from (remoteness_of from other) s) (places_found filter.radius from slots))) n
        (found-others slots s other are.each (kept-stands segments w filter.heading from filter.radius slots judged s other is kept.0) kept.1);
  }

  at-bound : (c : Candidate) → IsOnSegment segments w filter.heading from c → (c.place.segment < length segments) × (c.place.at ≤ 1024)
  at-bound c on = (
    slice_get_within segments c.place.segment on.segment on.is_segment,
    subst (λ k. k ≤ 1024) (sym (on.nearest ∙ nearest-by on.segment from))
        (share-bound (scalar_product from (position_of on.segment.from) (position_of on.segment.to)) (plane_between (position_of on.segment.from) (position_of on.segment.to))),
  )

  -- each lies on a segment
  pub found-placed : (slots : List (Option Candidate)) → AreSlots (all_ends segments) w filter.heading from slots
      → AllByRecursion (λ (one : Snapped). (one.place.segment < length segments) × (one.place.at ≤ 1024)) (places_found filter.radius from slots)
  found-placed slots are = found-all (λ slot. Unit {0}) (λ (one : Snapped). (one.place.segment < length segments) × (one.place.at ≤ 1024)) (λ c on _ near. at-bound c on) slots are.each (anything slots)

  -- no slot is filled, so no segment is kept
  pub none-kept : (slots : List (Option Candidate)) → slice_get slots 0 ≡ Some None → ((s : ℕ) → IsJudged (all_ends segments) w filter.heading from None slots s) → HasNoPlace segments w filter from
  none-kept [] e judged = absurd cc
  none-kept (None ∷ rest) e judged = λ s other is kept. kept-stands segments w filter.heading from filter.radius (None ∷ rest) judged s other is kept.0
  none-kept (Some c ∷ rest) e judged = absurd cc

  -- the first one comes before each kept segment, or is on it
  first-before : (slots : List (Option Candidate)) (c : Candidate) (remote s : ℕ) → slice_get slots 0 ≡ Some (Some c) → Stands remote s slots → ComesFirst c.remoteness c.place.segment remote s
  first-before [] c remote s e h = absurd cc
  first-before (None ∷ rest) c remote s e h = absurd h
  first-before (Some d ∷ rest) c remote s e h =
      let same : d ≡ c = cc in
      subst (λ (x : Candidate). ComesFirst x.remoteness x.place.segment remote s) same (elim h as (λ _. ComesFirst d.remoteness d.place.segment remote s) [
        | inl k ↦ inr (k.0, let q = k.1 in omega (arith, q))
        | inr p ↦ elim p.0 as (λ _. ComesFirst d.remoteness d.place.segment remote s) [ inl lt ↦ inl lt | inr k ↦ inr (k.0, let q = k.1 in omega (arith, q)) ]
      ])

  first-on : (slots : List (Option Candidate)) (c : Candidate) → slice_get slots 0 ≡ Some (Some c) → AllByRecursion (IsSlot (all_ends segments) w filter.heading from) slots → IsOnSegment segments w filter.heading from c
  first-on [] c e all = absurd cc
  first-on (None ∷ rest) c e all = absurd cc
  first-on (Some d ∷ rest) c e all = let same : d ≡ c = cc in subst (λ (x : Candidate). IsOnSegment segments w filter.heading from x) same (on-segment segments w filter.heading from d all.0)

  module _ (slots : List (Option Candidate)) (c : Candidate) (e : slice_get slots 0 ≡ Some (Some c)) (are : AreSlots (all_ends segments) w filter.heading from slots)
      (judged : (s : ℕ) → IsJudged (all_ends segments) w filter.heading from None slots s) where
    -- it is where the position is snapped to, if it is in reach
    pub snapped-is : IsInReach filter.radius (decimetres_between from (position_of c.spot)) → IsSnapped segments w filter from c.place
    snapped-is near =
        let on = first-on slots c e are.each in
        record {
          segment = on.segment;
          is_segment = on.is_segment;
          is_kept = (on.is_open, subst (λ (p : Position). IsInReach filter.radius (decimetres_between from p)) on.spot near);
          nearest = on.nearest;
          first = λ s other is kept.
              subst (λ r. ComesFirst r c.place.segment (remoteness_of from other) s) (on.remote ∙ ap (remoteness from) on.spot)
              (first-before slots c (remoteness_of from other) s e (kept-stands segments w filter.heading from filter.radius slots judged s other is kept.0));
        }

    -- and if it isn't, nothing else is
    pub out_of_reach : ¬ IsInReach filter.radius (decimetres_between from (position_of c.spot)) → HasNoPlace segments w filter from
    out_of_reach away = λ s other is kept.
        let comes = first-before slots c (remoteness_of from other) s e (kept-stands segments w filter.heading from filter.radius slots judged s other is kept.0) in
        let le : c.remoteness ≤ remoteness_of from other = elim comes as (λ _. c.remoteness ≤ remoteness_of from other) [ inl lt ↦ omega (arith, lt) | inr k ↦ let q = k.0 in omega (arith, q) ] in
        away (reach-before c other (first-on slots c e are.each) le kept.1)

    pub placed-is : (c.place.segment < length segments) × (c.place.at ≤ 1024)
    placed-is = at-bound c (first-on slots c e are.each)
