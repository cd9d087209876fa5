-- Extents by their numbers, and the numbers that lie in one of them.
use Rattle.std.proofs.Common.{◌≡◌, ◌≢◌, ℕ, ◌+◌, ◌-◌, ◌*◌, ◌/◌, ◌<◌, ◌≤◌, inl, inr, List, [], ◌∷◌, ◌++◌, length, get_or, sym, ap, subst, arith, ◌∙◌, get_or-set_other, get_or-set_same}
use Rattle.std.specs.Prelude.{◌%◌, Some}
use Rattle.std.specs.List.{slice_get}
use Rattle.std.proofs.Math.Nat.{eq-or-lt_of_le}
use Rattle.std.proofs.Math.ListN.{set, length-set}
use Rattle.std.proofs.lemmas.Bool.{cases_lt}
use Rattle.std.proofs.lemmas.Nat.{div-add-mod', div-mul-add}
use Rattle.std.proofs.lemmas.Option.{get_or_from_slice_get, same_Some, slice_get_within}
use Rattle.list_lemmas.proofs.Gets.{get_append, get_is, get_pushed, get_some}
use Rattle.road_base.specs.declared.coordinates.Point.{Point}
use Rattle.line_simplify.specs.Blocks.{HasAt, HasPoint}
use Rattle.line_simplify.specs.declared.extents.Extent.{Extent}

pub read-is : {X : Type 0} (xs : List X) (i : ℕ) (d x : X) → i < length xs → get_or xs i d ≡ x → slice_get xs i ≡ Some x
read-is xs i d x lt e = let there = get_some xs i lt in there.1 ∙ ap (λ y. Some y) (sym (get_or_from_slice_get xs i there.0 d there.1) ∙ e)

-- an extent more
pub push-stays : (xs ys : List Extent) (x : Extent) (k : ℕ) (p : Point) → ys ≡ xs ++ x ∷ [] → HasAt xs k p → HasAt ys k p
push-stays xs ys x k p e has = (has.0, ap (λ (l : List Extent). slice_get l k) e ∙ get_append xs (x ∷ []) k has.0 has.1, has.2)

pub push-added : (xs ys : List Extent) (x : Extent) (k : ℕ) (p : Point) → ys ≡ xs ++ x ∷ [] → length xs ≡ k → HasPoint x p → HasAt ys k p
push-added xs ys x k p e n has = (x, ap (λ (l : List Extent). slice_get l k) e ∙ subst (λ j. slice_get (xs ++ x ∷ []) j ≡ Some x) n (get_pushed xs x), has)

set-at : (xs : List Extent) (n : ℕ) (y : Extent) → n < length xs → slice_get (set xs n y) n ≡ Some y
set-at xs n y lt = let less : n < length (set xs n y) = omega (arith, lt, length-set xs n y) in get_is (set xs n y) n y less (get_or-set_same xs n y y lt)

-- an extent that becomes another
pub set-added : (xs : List Extent) (n : ℕ) (y : Extent) (p : Point) → n < length xs → HasPoint y p → HasAt (set xs n y) n p
set-added xs n y p lt has = (y, set-at xs n y lt, has)

set-other : (xs : List Extent) (n k : ℕ) (y : Extent) (p : Point) → k ≢ n → HasAt xs k p → HasAt (set xs n y) k p
set-other xs n k y p ne has =
    let lt : k < length xs = slice_get_within xs k has.0 has.1 in
    let less : k < length (set xs n y) = omega (arith, lt, length-set xs n y) in
    (has.0, get_is (set xs n y) k has.0 less (get_or-set_other xs n k y has.0 ne ∙ get_or_from_slice_get xs k has.0 has.0 has.1), has.2)

pub set-stays : (xs : List Extent) (n k : ℕ) (x y : Extent) (p : Point) → slice_get xs n ≡ Some x → (HasPoint x p → HasPoint y p) → HasAt xs k p → HasAt (set xs n y) k p
set-stays xs n k x y p is f has =
    elim (cases_lt k n) [
      | inl lt ↦ let ne : k ≢ n = omega arith in set-other xs n k y p ne has
      | inr ge ↦ elim (eq-or-lt_of_le ge) [
        | inl same ↦
            let one : has.0 ≡ x = same_Some has.0 x (sym has.1 ∙ ap (slice_get xs) (sym same) ∙ is) in
            subst (λ j. HasAt (set xs n y) j p) same (set-added xs n y p (slice_get_within xs n x is) (f (subst (λ (z : Extent). HasPoint z p) one has.2)))
        | inr lt ↦ let ne : k ≢ n = omega arith in set-other xs n k y p ne has
      ]
    ]

-- the numbers of a run have one quotient
pub one-quotient : (at i size : ℕ) → 0 < size → at % size ≡ 0 → at ≤ i → i < at + size → i / size ≡ at / size
one-quotient at i size some whole low high =
    let e : at / size * size ≡ at = let q = div-add-mod' at size in omega (arith, q, whole) in
    let r : i ≡ at / size * size + (i - at) = omega (arith, e, low) in
    ap (λ n. n / size) r ∙ div-mul-add (at / size) size (i - at) (omega (arith, low, high))
