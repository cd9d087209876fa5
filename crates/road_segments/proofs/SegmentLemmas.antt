-- Segments along the nodes of a way, one by one.
use Rattle.std.proofs.Common.{◌≡◌, ℕ, ℤ, pos, ◌+◌, ◌-◌, ◌<◌, ◌≤◌, List, [], ◌∷◌, ◌++◌, length, get_or, drop, Option, Some, None, Bool, true, false, cond, arith, refl, sym, ap, ◌∙◌, add-one, drop-cons, length-append, append_assoc}
use Rattle.std.specs.Prelude.{is_some}
use Rattle.std.specs.Ordering.{int_eq}
use Rattle.std.proofs.lemmas.Bool.{cond_both}
use Rattle.road_segments.specs.Located.{segment_with}
use Rattle.road_segments.specs.Segment.{Segment, joined, segment_between, segments_along, segments_through}
use Rattle.road_segments.specs.Rows.{segment_in, segments_in, street_at}
use Rattle.road_segments.specs.declared.roads.Row.{Row}
use Rattle.std.proofs.lemmas.List.{map-append}
use Rattle.road_segments.specs.declared.spots.Spot.{Spot}
use Rattle.road_segments.specs.declared.streets.Street.{Street}

-- the segments from node i - 1 on are that to node i and those from there on
pub through-step : (spot : ℤ → Option Spot) (street : Street) (ids : List ℤ) (i : ℕ) → i < length ids
    → segments_through spot street (get_or ids (i - 1) (pos 0)) (drop i ids)
    ≡ segment_between spot street (get_or ids (i - 1) (pos 0)) (get_or ids i (pos 0)) ++ segments_through spot street (get_or ids i (pos 0)) (drop (i + 1) ids)
through-step spot street ids i h = rw (drop-cons ids i (pos 0), add-one) refl

pub length-segment_with : (street : Street) (a b : ℤ) (ends : Option (Spot × Spot)) → length (segment_with street a b ends) ≡ cond (is_some ends) 1 0
length-segment_with street a b None = refl
length-segment_with street a b (Some ends) = refl

-- one more segment is counted, or none
pub count-step : (spot : ℤ → Option Spot) (street : Street) (ids : List ℤ) (i count next total : ℕ) (ends : Option (Spot × Spot)) → 0 < i → i < length ids
    → segment_between spot street (get_or ids (i - 1) (pos 0)) (get_or ids i (pos 0)) ≡ segment_with street (get_or ids (i - 1) (pos 0)) (get_or ids i (pos 0)) ends
    → next ≡ count + cond (is_some ends) 1 0
    → count + length (segments_through spot street (get_or ids (i - 1) (pos 0)) (drop i ids)) ≡ total
    → next + length (segments_through spot street (get_or ids (i + 1 - 1) (pos 0)) (drop (i + 1) ids)) ≡ total
count-step spot street ids i count next total ends p h e n t =
    let here : i + 1 - 1 ≡ i = omega arith in
    rw here (omega (
      arith,
      ap length (through-step spot street ids i h),
      length-append (segment_between spot street (get_or ids (i - 1) (pos 0)) (get_or ids i (pos 0))) (segments_through spot street (get_or ids i (pos 0)) (drop (i + 1) ids)),
      ap length e,
      length-segment_with street (get_or ids (i - 1) (pos 0)) (get_or ids i (pos 0)) ends,
    ))

abbrev bit_of : Bool → ℕ
bit_of b = cond b 1 0

-- there is a segment to node i
pub any-step : (spot : ℤ → Option Spot) (street : Street) (ids : List ℤ) (i total : ℕ) (ends : Option (Spot × Spot)) → i < length ids
    → segment_between spot street (get_or ids (i - 1) (pos 0)) (get_or ids i (pos 0)) ≡ segment_with street (get_or ids (i - 1) (pos 0)) (get_or ids i (pos 0)) ends
    → is_some ends ≡ true
    → length (segments_through spot street (get_or ids (i - 1) (pos 0)) (drop i ids)) ≡ total
    → 0 < total
any-step spot street ids i total ends h e some t =
    let one : length (segment_with street (get_or ids (i - 1) (pos 0)) (get_or ids i (pos 0)) ends) ≡ 1 =
    length-segment_with street (get_or ids (i - 1) (pos 0)) (get_or ids i (pos 0)) ends ∙ ap (λ (b : Bool). bit_of b) some in
    omega (
      arith,
      ap length (through-step spot street ids i h),
      length-append (segment_between spot street (get_or ids (i - 1) (pos 0)) (get_or ids i (pos 0))) (segments_through spot street (get_or ids i (pos 0)) (drop (i + 1) ids)),
      ap length e,
      one,
    )

-- there is none
pub none-step : (spot : ℤ → Option Spot) (street : Street) (ids : List ℤ) (i total : ℕ) (ends : Option (Spot × Spot)) → 0 < i → i < length ids
    → segment_between spot street (get_or ids (i - 1) (pos 0)) (get_or ids i (pos 0)) ≡ segment_with street (get_or ids (i - 1) (pos 0)) (get_or ids i (pos 0)) ends
    → is_some ends ≡ false
    → length (segments_through spot street (get_or ids (i - 1) (pos 0)) (drop i ids)) ≡ total
    → length (segments_through spot street (get_or ids (i + 1 - 1) (pos 0)) (drop (i + 1) ids)) ≡ total
none-step spot street ids i total ends p h e none t =
    let here : i + 1 - 1 ≡ i = omega arith in
    let zero : length (segment_with street (get_or ids (i - 1) (pos 0)) (get_or ids i (pos 0)) ends) ≡ 0 =
    length-segment_with street (get_or ids (i - 1) (pos 0)) (get_or ids i (pos 0)) ends ∙ ap (λ (b : Bool). bit_of b) none in
    rw here (omega (
      arith,
      ap length (through-step spot street ids i h),
      length-append (segment_between spot street (get_or ids (i - 1) (pos 0)) (get_or ids i (pos 0))) (segments_through spot street (get_or ids i (pos 0)) (drop (i + 1) ids)),
      ap length e,
      zero,
      t,
    ))

-- at most one segment lies between two nodes
joined-few : (street : Street) (a b : ℤ) (from to : Option Spot) → length (joined street a b from to) ≤ 1
joined-few street a b None to = omega arith
joined-few street a b (Some from) None = omega arith
joined-few street a b (Some from) (Some to) = omega arith

between-few : (spot : ℤ → Option Spot) (street : Street) (a b : ℤ) → length (segment_between spot street a b) ≤ 1
between-few spot street a b =
    cond_both (int_eq a b) [] (joined street a b (spot a) (spot b)) (λ (x : List Segment). length x ≤ 1) (λ _. omega arith) (λ _. joined-few street a b (spot a) (spot b))

through-few : (spot : ℤ → Option Spot) (street : Street) (a : ℤ) (more : List ℤ) → length (segments_through spot street a more) ≤ length more
through-few spot street a [] = omega arith
through-few spot street a (b ∷ more) =
    omega (arith, length-append (segment_between spot street a b) (segments_through spot street b more), between-few spot street a b, through-few spot street b more)

-- no more segments than nodes of a way behind its first
pub along-few : (spot : ℤ → Option Spot) (street : Street) (ids : List ℤ) → length (segments_along spot street ids) ≤ length ids - 1
along-few spot street [] = omega arith
along-few spot street (a ∷ more) = omega (arith, through-few spot street a more)

-- a row has what the nodes at its two ends are, and the number of its street
pub record IsRow (a b : ℤ) (from to : Spot) (street : ℕ) (row : Row) : Type 0 where
  pub tail : row.tail ≡ a
  pub head : row.head ≡ b
  pub begins : row.from ≡ from.point
  pub ends : row.to ≡ to.point
  pub at_tail : row.at_tail ≡ from.usage
  pub at_head : row.at_head ≡ to.usage
  pub on : row.street ≡ street

row-is : (streets : List Street) (row : Row) (a b : ℤ) (from to : Spot) (street : ℕ) → IsRow a b from to street row
    → segment_in streets row ∷ [] ≡ segment_with (street_at streets street) a b (Some (from, to))
row-is streets row a b from to street h =
    let t = h.tail in
    let d = h.head in
    let f = h.begins in
    let e = h.ends in
    let m = h.at_tail in
    let n = h.at_head in
    let s = h.on in
    λ i. record { tail = t i; head = d i; from = f i; to = e i; at_tail = m i; at_head = n i; street = street_at streets (s i) } ∷ []

-- one more row, or none
module _ (spot : ℤ → Option Spot) (street : ℕ) (ids : List ℤ) (i : ℕ) (old rows : List Row) (positive : 0 < i) (within : i < length ids)
    (so_far : (streets : List Street) → segments_in streets rows ++ segments_through spot (street_at streets street) (get_or ids (i - 1) (pos 0)) (drop i ids)
    ≡ segments_in streets old ++ segments_along spot (street_at streets street) ids) where
  pub row-step : (row : Row) (from to : Spot) → IsRow (get_or ids (i - 1) (pos 0)) (get_or ids i (pos 0)) from to street row
      → ((s : Street) → segment_between spot s (get_or ids (i - 1) (pos 0)) (get_or ids i (pos 0)) ≡ segment_with s (get_or ids (i - 1) (pos 0)) (get_or ids i (pos 0)) (Some (from, to)))
      → (streets : List Street) → segments_in streets (rows ++ row ∷ []) ++ segments_through spot (street_at streets street) (get_or ids (i + 1 - 1) (pos 0)) (drop (i + 1) ids)
      ≡ segments_in streets old ++ segments_along spot (street_at streets street) ids
  row-step row from to is b streets =
      let here : i + 1 - 1 ≡ i = omega arith in
      let S = street_at streets street in
      let rest = segments_through spot S (get_or ids i (pos 0)) (drop (i + 1) ids) in
      let same : segment_in streets row ∷ [] ≡ segment_with S (get_or ids (i - 1) (pos 0)) (get_or ids i (pos 0)) (Some (from, to)) =
      row-is streets row (get_or ids (i - 1) (pos 0)) (get_or ids i (pos 0)) from to street is in
      rw here
      (ap (λ (x : List Segment). x ++ rest) (map-append (segment_in streets) rows (row ∷ []))
      ∙ append_assoc (segments_in streets rows) (segment_in streets row ∷ []) rest
      ∙ ap (λ (x : List Segment). segments_in streets rows ++ (x ++ rest)) (same ∙ sym (b S))
      ∙ ap (λ (x : List Segment). segments_in streets rows ++ x) (sym (through-step spot S ids i within))
      ∙ so_far streets)

  pub no-row-step : ((s : Street) → segment_between spot s (get_or ids (i - 1) (pos 0)) (get_or ids i (pos 0)) ≡ [])
      → (streets : List Street) → segments_in streets rows ++ segments_through spot (street_at streets street) (get_or ids (i + 1 - 1) (pos 0)) (drop (i + 1) ids)
      ≡ segments_in streets old ++ segments_along spot (street_at streets street) ids
  no-row-step b streets =
      let here : i + 1 - 1 ≡ i = omega arith in
      let S = street_at streets street in
      rw here
      (ap (λ (x : List Segment). segments_in streets rows ++ (x ++ segments_through spot S (get_or ids i (pos 0)) (drop (i + 1) ids))) (sym (b S))
      ∙ ap (λ (x : List Segment). segments_in streets rows ++ x) (sym (through-step spot S ids i within))
      ∙ so_far streets)

-- what is nothing else is None
pub none-else : {X : Type 0} (o : Option X) → ((x : X) → o ≡ Some x → ⊥) → o ≡ None
none-else None h = refl
none-else (Some x) h = absurd (h x refl)
