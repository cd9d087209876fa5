-- Where a trip stops, and that each of its legs has a walk.
use Rattle.std.proofs.Common.{◌≡◌, ℕ, ◌+◌, ◌<◌, ◌≤◌, zero, suc, Bool, true, false, inl, inr, List, [], ◌∷◌, ◌++◌, Option, Some, None, length, length-append, get_or, take, arith, refl, sym, ap, subst, ◌∙◌}
use Rattle.std.specs.List.{AllZip, Contains, cons_option, slice_get}
use Rattle.std.proofs.lemmas.List.{take_more}
use Rattle.std.proofs.lemmas.List.Elements.{Contains-append_cases, filter_map-append}
use Rattle.std.proofs.lemmas.Option.{get_or_from_slice_get, same_Some}
use Rattle.list_lemmas.proofs.Fronts.{all_zip-length}
use Rattle.list_lemmas.proofs.Gets.{get_some}
use Rattle.road_base.specs.declared.segments.Place.{Place}
use Rattle.search_graph.specs.Costs.{CostOps}
use Rattle.search_graph.specs.RoadCosts.{road_cost_ops}
use Rattle.search_graph.specs.declared.costs.WeightDurLen.{WeightDurLen}
use Rattle.trip_query.specs.Trips.{both, leg, stops, sum_along}
use Rattle.trip_query.specs.declared.rules.Rule.{Rule}
use Rattle.trip_query.specs.declared.trips.Trip.{Trip}
use Rattle.metric_make.specs.RoadMetric.{RoadMetric}
use Rattle.road_walks.specs.Legs.{HasWalk, IsBrokenLeg, legs_of}
use Rattle.road_walks.specs.Tables.{AreRowsOf, IsCellOf, IsRowOf}
use Rattle.road_trips.specs.Trips.{IsBestThrough, places_at, stops_at}

-- each number is that of a place
abbrev pub AreBelow : ℕ → List ℕ → Type 0
AreBelow n numbers = (k : ℕ) → Contains numbers k → k < n

pub below-first : (n i : ℕ) (more : List ℕ) → AreBelow n (i ∷ more) → i < n
below-first n i more below = below i (0, omega arith, refl)

pub below-rest : (n i : ℕ) (more : List ℕ) → AreBelow n (i ∷ more) → AreBelow n more
below-rest n i more below k h = let lt = h.1 in below k (suc h.0, omega (arith, lt), h.2)

-- a trip stops only at the places of its order
pub stops-below : (n : ℕ) (round : Bool) (order : List ℕ) → AreBelow n order → AreBelow n (stops round order)
stops-below n false order below k h = below k h
stops-below n true [] below k h = below k h
stops-below n true (i ∷ more) below k h = elim (Contains-append_cases (i ∷ more) (i ∷ []) k h) [
  | inl there ↦ below k there
  | inr back ↦
      let lt = back.1 in
      let first : back.0 ≡ 0 = omega (arith, lt) in
      below k (0, omega arith, subst (λ (j : ℕ). get_or (i ∷ []) j k ≡ k) first back.2)
]

pub stops-size : (round : Bool) (order : List ℕ) → (length order ≤ length (stops round order)) × (length (stops round order) ≤ length order + 1)
stops-size false order = (omega arith, omega arith)
stops-size true [] = (omega arith, omega arith)
stops-size true (i ∷ more) = let e = length-append (i ∷ more) (i ∷ []) in (omega (arith, e), omega (arith, e))

module _ (places : List Place) where
  places-cons : (i : ℕ) (more : List ℕ) (p : Place) → slice_get places i ≡ Some p → places_at places (i ∷ more) ≡ p ∷ places_at places more
  places-cons i more p at = ap (λ (o : Option Place). cons_option o (places_at places more)) at

  -- one number more is one place more
  pub places-more : (numbers : List ℕ) (k d : ℕ) (p : Place) → k < length numbers → slice_get places (get_or numbers k d) ≡ Some p → places_at places (take (k + 1) numbers) ≡ places_at places (take k numbers) ++ p ∷ []
  places-more numbers k d p lt at =
      ap (places_at places) (take_more numbers k d lt)
      ∙ filter_map-append (slice_get places) (take k numbers) (get_or numbers k d ∷ [])
      ∙ ap (λ (o : Option Place). places_at places (take k numbers) ++ cons_option o []) at

  -- as many places as numbers
  pub places-size : (numbers : List ℕ) → AreBelow (length places) numbers → length (places_at places numbers) ≡ length numbers
  places-size [] below = refl
  places-size (i ∷ more) below =
      let p = get_some places i (below-first (length places) i more below) in
      let rest = places-size more (below-rest (length places) i more below) in
      let e = ap (length {A = Place}) (places-cons i more p.0 p.1) in
      omega (arith, rest, e)

  module _ (P : Place → Type 0) (each : (k : ℕ) (p : Place) → slice_get places k ≡ Some p → P p) where
    places-one : (rest : List Place) (i : ℕ) (o : Option Place) → slice_get places i ≡ o → ((k : ℕ) (p : Place) → slice_get rest k ≡ Some p → P p) → (k : ℕ) (p : Place) → slice_get (cons_option o rest) k ≡ Some p → P p
    places-one rest i None is inner k p at = inner k p at
    places-one rest i (Some q) is inner zero p at = each i p (is ∙ at)
    places-one rest i (Some q) is inner (suc k) p at = inner k p at

    -- what holds of each place holds of each of these
    pub places-each : (numbers : List ℕ) (k : ℕ) (p : Place) → slice_get (places_at places numbers) k ≡ Some p → P p
    places-each [] k p at = cc
    places-each (i ∷ more) k p at = places-one (places_at places more) i (slice_get places i) refl (places-each more) k p at

-- the element beside one, at the same place
beside : {A B : Type 0} (R : A → B → Type 0) (xs : List A) (ys : List B) (k : ℕ) (x : A) → AllZip R xs ys → slice_get xs k ≡ Some x → (y : B) × (slice_get ys k ≡ Some y) × R x y
beside R [] ys k x h at = cc
beside R (a ∷ xs) [] k x h at = absurd h
beside R (a ∷ xs) (b ∷ ys) zero x h at = (b, refl, subst (λ z. R z b) (same_Some a x at) h.0)
beside R (a ∷ xs) (b ∷ ys) (suc k) x h at = beside R xs ys k x h.1 at

-- both costs, where there is a sum
both-some : {C : Type 0} (ops : CostOps C) (a b : Option C) (c : C) → both ops a b ≡ Some c → ((x : C) × (a ≡ Some x)) × ((y : C) × (b ≡ Some y))
both-some ops None b c e = cc
both-some ops (Some x) None c e = cc
both-some ops (Some x) (Some y) c e = ((x, refl), (y, refl))

-- what holds of the first leg and of each behind it holds of each
legs-each : (P : Place × Place → Type 0) (p q : Place) (rest : List Place) → P (p, q) → ((k : ℕ) (ends : Place × Place) → slice_get (legs_of (q ∷ rest)) k ≡ Some ends → P ends)
    → (k : ℕ) (ends : Place × Place) → slice_get (legs_of (p ∷ q ∷ rest)) k ≡ Some ends → P ends
legs-each P p q rest first behind zero ends at = subst P (same_Some (p, q) ends at) first
legs-each P p q rest first behind (suc k) ends at = behind k ends at

module _ (road : RoadMetric) (places : List Place) (rows : List (List (Option WeightDurLen))) (costs : AreRowsOf road places places rows) where
  -- a leg that has a cost has a walk
  leg-walk : (i j : ℕ) (p q : Place) (d : WeightDurLen) → slice_get places i ≡ Some p → slice_get places j ≡ Some q → leg rows i j ≡ Some d → HasWalk road (p, q)
  leg-walk i j p q d from to cost =
      let row = beside (IsRowOf road places) places rows i p costs from in
      let cell = beside (IsCellOf road p) places row.0 j q row.2 to in
      let here : slice_get row.0 j ≡ Some cell.0 = cell.1 in
      let value : leg rows i j ≡ cell.0 = ap (λ (r : List (Option WeightDurLen)). get_or r j None) (get_or_from_slice_get rows i row.0 [] row.1) ∙ get_or_from_slice_get row.0 j cell.0 None here in
      let is : IsCellOf road p q (Some d) = subst (IsCellOf road p q) (sym value ∙ cost) cell.2 in
      (is.0.0, d, is.0.1)

  legs-walk : (numbers : List ℕ) (c : WeightDurLen) → AreBelow (length places) numbers → sum_along road_cost_ops rows numbers ≡ Some c
      → (k : ℕ) (ends : Place × Place) → slice_get (legs_of (places_at places numbers)) k ≡ Some ends → HasWalk road ends
  legs-walk [] c below sum k ends at = cc
  legs-walk (i ∷ []) c below sum k ends at =
      let p = get_some places i (below-first (length places) i [] below) in
      absurd (let e : slice_get (legs_of (p.0 ∷ [])) k ≡ Some ends = subst (λ (xs : List Place). slice_get (legs_of xs) k ≡ Some ends) (places-cons places i [] p.0 p.1) at in cc)
  legs-walk (i ∷ j ∷ more) c below sum k ends at =
      let rest = below-rest (length places) i (j ∷ more) below in
      let p = get_some places i (below-first (length places) i (j ∷ more) below) in
      let q = get_some places j (below-first (length places) j more rest) in
      let cons : places_at places (j ∷ more) ≡ q.0 ∷ places_at places more = places-cons places j more q.0 q.1 in
      let all : places_at places (i ∷ j ∷ more) ≡ p.0 ∷ q.0 ∷ places_at places more = places-cons places i (j ∷ more) p.0 p.1 ∙ ap (λ (xs : List Place). p.0 ∷ xs) cons in
      let two = both-some road_cost_ops (leg rows i j) (sum_along road_cost_ops rows (j ∷ more)) c sum in
      legs-each (HasWalk road) p.0 q.0 (places_at places more) (leg-walk i j p.0 q.0 two.0.0 p.1 q.1 two.0.1)
      (λ n there is. legs-walk (j ∷ more) two.1.0 rest two.1.1 n there (subst (λ (xs : List Place). slice_get (legs_of xs) n ≡ Some there) (sym cons) is))
      k ends (subst (λ (xs : List Place). slice_get (legs_of xs) k ≡ Some ends) all at)

  -- so none of the legs of a trip that has a cost is the first without a walk
  pub none-broken : (numbers : List ℕ) (c : WeightDurLen) (found : List Place) → AreBelow (length places) numbers → sum_along road_cost_ops rows numbers ≡ Some c → found ≡ places_at places numbers → (n : ℕ) → ¬ IsBrokenLeg road found n
  none-broken numbers c found below sum is n broken =
      let walk = legs-walk numbers c below sum n broken.it (subst (λ (xs : List Place). slice_get (legs_of xs) n ≡ Some broken.it) is broken.is_there) in
      broken.fails walk.0 walk.1 walk.2

-- the order of the best trip has places alone
pub order-below : (road : RoadMetric) (places : List Place) (rule : Rule) (trip : Trip WeightDurLen) → IsBestThrough road places rule (Some trip) → AreBelow (length places) trip.order
order-below road places rule trip best k h =
    let rows = best.0 in
    let as_many = all_zip-length (IsRowOf road places) places rows best.1 in
    let lt = best.2.admitted.all.only k h in
    omega (arith, as_many, lt)

-- it stops as often as there are places, or once more
pub stops-count : (places found : List Place) (round : Bool) (order : List ℕ) → AreBelow (length places) order → length order ≡ length places → found ≡ stops_at places round order → (length places ≤ length found) × (length found ≤ length places + 1)
stops-count places found round order below all is =
    let size = places-size places (stops round order) (stops-below (length places) round order below) in
    let found-size = ap (length {A = Place}) is in
    let bounds = stops-size round order in
    let low = bounds.0 in
    let high = bounds.1 in
    (omega (arith, size, found-size, all, low), omega (arith, size, found-size, all, high))

-- and none of its legs is the first without a walk
pub trip-whole : (road : RoadMetric) (places found : List Place) (rule : Rule) (trip : Trip WeightDurLen) → IsBestThrough road places rule (Some trip) → found ≡ stops_at places rule.roundtrip trip.order → (n : ℕ) → ¬ IsBrokenLeg road found n
trip-whole road places found rule trip best is =
    none-broken road places best.0 best.1 (stops rule.roundtrip trip.order) trip.cost found (stops-below (length places) rule.roundtrip trip.order (order-below road places rule trip best)) best.2.costs is
