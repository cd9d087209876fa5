-- The index: extents by their numbers, and the order.
use Rattle.std.proofs.Common.{◌≡◌, ◌≢◌, ℕ, ◌<◌, inl, inr, List, [], ◌∷◌, ◌++◌, length, refl, sym, ap, subst, arith, ◌∙◌, get_or-set_other, get_or-set_same}
use Rattle.std.specs.Prelude.{Option, Some, None, map, option_map}
use Rattle.std.specs.List.{slice_get}
use Rattle.std.specs.List.Sorted.{IsPermutation}
use Rattle.std.proofs.Math.Nat.{eq-or-lt_of_le}
use Rattle.std.proofs.Math.ListN.{set, length-set}
use Rattle.std.proofs.lemmas.Bool.{cases_lt}
use Rattle.std.proofs.lemmas.List.Sorted.{Contains-permutation, IsPermutation-sym}
use Rattle.std.proofs.lemmas.Option.{get_or_from_slice_get, same_Some, slice_get-map, slice_get_within}
use Rattle.list_lemmas.proofs.Gets.{Contains_get, get_Contains, get_append, get_is, get_pushed, get_some}
use Rattle.snap_index.specs.Index.{HasAt, HasLine, IsOrder}
use Rattle.snap_index.specs.declared.extents.Extent.{Extent}
use Rattle.snap_index.specs.declared.grids.SegmentEnds.{SegmentEnds}
use Rattle.snap_index.specs.declared.indexes.Spot.{Spot}

-- an extent more
pub push-stays : (xs ys : List Extent) (x : Extent) (k : ℕ) (line : SegmentEnds) → ys ≡ xs ++ x ∷ [] → HasAt xs k line → HasAt ys k line
push-stays xs ys x k line e has = (has.0, ap (λ (l : List Extent). slice_get l k) e ∙ get_append xs (x ∷ []) k has.0 has.1, has.2)

pub push-added : (xs ys : List Extent) (x : Extent) (k : ℕ) (line : SegmentEnds) → ys ≡ xs ++ x ∷ [] → length xs ≡ k → HasLine x line → HasAt ys k line
push-added xs ys x k line e n has = (x, ap (λ (l : List Extent). slice_get l k) e ∙ subst (λ j. slice_get (xs ++ x ∷ []) j ≡ Some x) n (get_pushed xs x), has)

set-at : (xs : List Extent) (n : ℕ) (y : Extent) → n < length xs → slice_get (set xs n y) n ≡ Some y
set-at xs n y lt = let less : n < length (set xs n y) = omega (arith, lt, length-set xs n y) in get_is (set xs n y) n y less (get_or-set_same xs n y y lt)

-- an extent that becomes another
pub set-added : (xs : List Extent) (n : ℕ) (y : Extent) (line : SegmentEnds) → n < length xs → HasLine y line → HasAt (set xs n y) n line
set-added xs n y line lt has = (y, set-at xs n y lt, has)

set-other : (xs : List Extent) (n k : ℕ) (y : Extent) (line : SegmentEnds) → k ≢ n → HasAt xs k line → HasAt (set xs n y) k line
set-other xs n k y line ne has =
    let lt : k < length xs = slice_get_within xs k has.0 has.1 in
    let less : k < length (set xs n y) = omega (arith, lt, length-set xs n y) in
    (has.0, get_is (set xs n y) k has.0 less (get_or-set_other xs n k y has.0 ne ∙ get_or_from_slice_get xs k has.0 has.0 has.1), has.2)

pub set-stays : (xs : List Extent) (n k : ℕ) (x y : Extent) (line : SegmentEnds) → slice_get xs n ≡ Some x → (HasLine x line → HasLine y line) → HasAt xs k line → HasAt (set xs n y) k line
set-stays xs n k x y line is f has =
    elim (cases_lt k n) [
      | inl lt ↦ let ne : k ≢ n = omega arith in set-other xs n k y line ne has
      | inr ge ↦ elim (eq-or-lt_of_le ge) [
        | inl same ↦
            let one : has.0 ≡ x = same_Some has.0 x (sym has.1 ∙ ap (slice_get xs) (sym same) ∙ is) in
            subst (λ j. HasAt (set xs n y) j line) same (set-added xs n y line (slice_get_within xs n x is) (f (subst (λ (z : Extent). HasLine z line) one has.2)))
        | inr lt ↦ let ne : k ≢ n = omega arith in set-other xs n k y line ne has
      ]
    ]

-- the segments of spots
abbrev pub segments_of : List Spot → List ℕ
segments_of spots = map (λ (spot : Spot). spot.segment) spots

pub segment-at : (spots : List Spot) (i : ℕ) (spot : Spot) → slice_get spots i ≡ Some spot → slice_get (segments_of spots) i ≡ Some spot.segment
segment-at spots i spot e = slice_get-map (λ (x : Spot). x.segment) spots i ∙ ap (option_map (λ (x : Spot). x.segment)) e

spot-at : (spots : List Spot) (i s : ℕ) → slice_get (segments_of spots) i ≡ Some s → (spot : Spot) × (slice_get spots i ≡ Some spot) × (spot.segment ≡ s)
spot-at spots i s e = by-spot (slice_get spots i) (sym (slice_get-map (λ (x : Spot). x.segment) spots i) ∙ e)
  where
    by-spot : (o : Option Spot) → option_map (λ (x : Spot). x.segment) o ≡ Some s → (spot : Spot) × (o ≡ Some spot) × (spot.segment ≡ s)
    by-spot None q = absurd cc
    by-spot (Some spot) q = (spot, refl, same_Some spot.segment s q)

-- spots that were numbered, in another order, name each segment and no others
pub order-is : (lines : List SegmentEnds) (first spots : List Spot) → length first ≡ length lines → ((i : ℕ) (spot : Spot) → slice_get first i ≡ Some spot → spot.segment ≡ i)
    → IsPermutation first spots → IsOrder lines (segments_of spots)
order-is lines first spots count numbered same = record {
  each = λ s lt.
      let less : s < length first = omega (arith, count, lt) in
      let there = get_some first s less in
      let among = get_Contains spots there.0 (Contains-permutation first spots there.0 same (Contains_get first s there.0 there.1)) in
      (among.0, segment-at spots among.0 there.0 among.1 ∙ ap (λ n. Some n) (numbered s there.0 there.1));
  others = λ i s e.
      let there = spot-at spots i s e in
      let among = get_Contains first there.0 (Contains-permutation spots first there.0 (IsPermutation-sym first spots same) (Contains_get spots i there.0 there.1)) in
      let lt = slice_get_within first among.0 there.0 among.1 in
      let n = numbered among.0 there.0 among.1 in
      let m = there.2 in
      omega (arith, lt, count, n, m);
}
