-- How far spots lie apart, whatever their order.
use Rattle.std.proofs.Common.{◌≡◌, ℕ, ℤ, pos, negsuc, ◌-ℤ◌, ◌≤ℤ◌, ◌+◌, ◌/◌, ◌<◌, List, [], ◌∷◌, ◌++◌, length, map, fold, get_or, zero, suc, false, ◌-◌, All, Contains, refl, sym, ap, ◌∙◌, subst, arith, ⊎_elim, if◌then◌else◌, is_lt, int_cmp}
use Rattle.std.specs.Int.{int_max, int_min}
use Rattle.std.specs.List.Sorted.{IsPermutation, IsSortedBy}
use Rattle.std.proofs.lemmas.Int.{ints, fold-int_max_bounds, fold-int_max_reached, fold-int_min_bounds, fold-int_min_reached}
use Rattle.std.proofs.lemmas.List.Elements.{All-contains, All-nil, All-cons, All-head, All-tail, Contains-append_right}
use Rattle.std.proofs.lemmas.List.Sorted.{IsPermutation-sym, IsPermutation-trans, IsPermutation-map, Contains-permutation, length_permutation, sorted_far}
use Rattle.std.proofs.lemmas.List.{get_or_default}
use Rattle.cell_partition.specs.declared.spot.Spot.{Spot}
use Rattle.cell_partition.specs.declared.spot.Axis.{Axis}
use Rattle.cell_partition.specs.declared.spot.Axis.TheVariants.{Longitude, Latitude}
use Rattle.cell_partition.specs.Spots.{along, greatest, least, width, wider_axis, comes_before}
use Rattle.cell_partition.proofs.Orders.{before_order}
use Rattle.cell_partition.specs.Halving.{IsHalved, small, large}

fold_along : (f : ℤ → ℤ → ℤ) (axis : Axis) (a : ℤ) (spots : List Spot) → fold (λ most spot. f most (along axis spot)) a spots ≡ fold f a (map (along axis) spots)
fold_along f axis a [] = refl
fold_along f axis a (spot ∷ spots) = fold_along f axis (f a (along axis spot)) spots

same_int : (x y : ℤ) → x ≤ℤ y → y ≤ℤ x → x ≡ y
same_int x y h k = grind (arith, ints)

max_under : (a : ℤ) (xs ys : List ℤ) → IsPermutation xs ys → fold int_max a ys ≤ℤ fold int_max a xs
max_under a xs ys same =
    let bounds = fold-int_max_bounds a xs (fold int_max a xs) refl in
    ⊎_elim
    (λ (first : fold int_max a ys ≡ a). subst (λ (r : ℤ). r ≤ℤ fold int_max a xs) (sym first) bounds.0)
    (λ (inside : Contains ys (fold int_max a ys)). All-contains (λ x. x ≤ℤ fold int_max a xs) xs (fold int_max a ys) bounds.1 (Contains-permutation ys xs (fold int_max a ys) (IsPermutation-sym xs ys same) inside))
    (fold-int_max_reached a ys (fold int_max a ys) refl)

min_over : (a : ℤ) (xs ys : List ℤ) → IsPermutation xs ys → fold int_min a xs ≤ℤ fold int_min a ys
min_over a xs ys same =
    let bounds = fold-int_min_bounds a xs (fold int_min a xs) refl in
    ⊎_elim
    (λ (first : fold int_min a ys ≡ a). subst (λ (r : ℤ). fold int_min a xs ≤ℤ r) (sym first) bounds.0)
    (λ (inside : Contains ys (fold int_min a ys)). All-contains (λ x. fold int_min a xs ≤ℤ x) xs (fold int_min a ys) bounds.1 (Contains-permutation ys xs (fold int_min a ys) (IsPermutation-sym xs ys same) inside))
    (fold-int_min_reached a ys (fold int_min a ys) refl)

greatest-permutation : (axis : Axis) (xs ys : List Spot) → IsPermutation xs ys → greatest axis xs ≡ greatest axis ys
greatest-permutation axis xs ys same =
    let there = IsPermutation-map (along axis) xs ys same in
    fold_along int_max axis (negsuc 2147483647) xs
    ∙ same_int (fold int_max (negsuc 2147483647) (map (along axis) xs)) (fold int_max (negsuc 2147483647) (map (along axis) ys))
    (max_under (negsuc 2147483647) (map (along axis) ys) (map (along axis) xs) (IsPermutation-sym (map (along axis) xs) (map (along axis) ys) there))
    (max_under (negsuc 2147483647) (map (along axis) xs) (map (along axis) ys) there)
    ∙ sym (fold_along int_max axis (negsuc 2147483647) ys)

least-permutation : (axis : Axis) (xs ys : List Spot) → IsPermutation xs ys → least axis xs ≡ least axis ys
least-permutation axis xs ys same =
    let there = IsPermutation-map (along axis) xs ys same in
    fold_along int_min axis (pos 2147483647) xs
    ∙ same_int (fold int_min (pos 2147483647) (map (along axis) xs)) (fold int_min (pos 2147483647) (map (along axis) ys))
    (min_over (pos 2147483647) (map (along axis) xs) (map (along axis) ys) there)
    (min_over (pos 2147483647) (map (along axis) ys) (map (along axis) xs) (IsPermutation-sym (map (along axis) xs) (map (along axis) ys) there))
    ∙ sym (fold_along int_min axis (pos 2147483647) ys)

pub width-permutation : (axis : Axis) (xs ys : List Spot) → IsPermutation xs ys → width axis xs ≡ width axis ys
width-permutation axis xs ys same = ap (λ z. z -ℤ least axis xs) (greatest-permutation axis xs ys same) ∙ ap (λ z. greatest axis ys -ℤ z) (least-permutation axis xs ys same)

wider_axis-permutation : (xs ys : List Spot) → IsPermutation xs ys → wider_axis xs ≡ wider_axis ys
wider_axis-permutation xs ys same =
    ap (λ z. if is_lt (int_cmp z (width Latitude xs)) then Latitude else Longitude) (width-permutation Longitude xs ys same)
    ∙ ap (λ z. if is_lt (int_cmp (width Longitude ys) z) then Latitude else Longitude) (width-permutation Latitude xs ys same)

-- a part is halved alike in any order
pub halved_permutation : (limit : ℕ) (part order : List Spot) (parts : List (List Spot)) → limit < length part → IsPermutation part order → IsHalved limit order parts → IsHalved limit part parts
halved_permutation limit part order parts more same (small p few) = absurd (omega (arith, length_permutation part order same))
halved_permutation limit part order parts more same (large p first second firsts seconds h halves a b) =
    large part first second firsts seconds more (record {
      same = IsPermutation-trans part order (first ++ second) same halves.same;
      in_order = subst (λ (axis : Axis). IsSortedBy (comes_before axis) (first ++ second)) (sym (wider_axis-permutation part order same)) halves.in_order;
      half = halves.half ∙ ap (λ n. (n + 1) / 2) (length_permutation part order same);
    }) a b

not_before : (axis : Axis) (one other : Spot) → comes_before axis one other ≡ false → along axis other ≤ℤ along axis one
not_before axis one other h = grind (arith, ints)

All-map-along : (axis : Axis) (spots : List Spot) (P : ℤ → Type 0) → All (λ (spot : Spot). P (along axis spot)) spots → All P (map (along axis) spots)
All-map-along axis [] P all = All-nil P
All-map-along axis (spot ∷ spots) P all =
    All-cons P (along axis spot) (map (along axis) spots) (All-head (λ (s : Spot). P (along axis s)) spot spots all) (All-map-along axis spots P (All-tail (λ (s : Spot). P (along axis s)) spot spots all))

Contains-along : (axis : Axis) (spots : List Spot) (k : ℕ) (d : Spot) → k < length spots → Contains (map (along axis) spots) (along axis (get_or spots k d))
Contains-along axis [] k d lt = absurd (omega arith)
Contains-along axis (spot ∷ spots) zero d lt = (zero, omega arith, refl)
Contains-along axis (spot ∷ spots) (suc k) d lt = Contains-append_right (along axis spot ∷ []) (map (along axis) spots) (along axis (get_or spots k d)) (Contains-along axis spots k d (omega arith))

-- the last in order along an axis lies furthest
greatest_is : (axis : Axis) (part sorted : List Spot) (d : Spot) → IsPermutation part sorted → IsSortedBy (comes_before axis) sorted → 0 < length sorted → negsuc 2147483647 ≤ℤ along axis (get_or sorted (length sorted - 1) d)
    → greatest axis part ≡ along axis (get_or sorted (length sorted - 1) d)
greatest_is axis part sorted d same up some low =
    let last : ℤ = along axis (get_or sorted (length sorted - 1) d) in
    let bounds = fold-int_max_bounds (negsuc 2147483647) (map (along axis) sorted) (fold int_max (negsuc 2147483647) (map (along axis) sorted)) refl in
    let all : All (λ (spot : Spot). along axis spot ≤ℤ last) sorted =
    λ k e lt. not_before axis (get_or sorted (length sorted - 1) d) (get_or sorted k e)
    (subst (λ (s : Spot). comes_before axis s (get_or sorted k e) ≡ false) (get_or_default sorted (length sorted - 1) e d (omega arith)) (sorted_far (comes_before axis) (before_order axis) sorted up k (length sorted - 1) e (omega arith) (omega arith))) in
    let under : fold int_max (negsuc 2147483647) (map (along axis) sorted) ≤ℤ last =
    ⊎_elim
    (λ (least : fold int_max (negsuc 2147483647) (map (along axis) sorted) ≡ negsuc 2147483647). subst (λ (r : ℤ). r ≤ℤ last) (sym least) low)
    (λ (inside : Contains (map (along axis) sorted) (fold int_max (negsuc 2147483647) (map (along axis) sorted))).
    All-contains (λ (x : ℤ). x ≤ℤ last) (map (along axis) sorted) (fold int_max (negsuc 2147483647) (map (along axis) sorted)) (All-map-along axis sorted (λ (x : ℤ). x ≤ℤ last) all) inside)
    (fold-int_max_reached (negsuc 2147483647) (map (along axis) sorted) (fold int_max (negsuc 2147483647) (map (along axis) sorted)) refl) in
    let over : last ≤ℤ fold int_max (negsuc 2147483647) (map (along axis) sorted) =
    All-contains (λ (x : ℤ). x ≤ℤ fold int_max (negsuc 2147483647) (map (along axis) sorted)) (map (along axis) sorted) last bounds.1 (Contains-along axis sorted (length sorted - 1) d (omega arith)) in
    greatest-permutation axis part sorted same ∙ fold_along int_max axis (negsuc 2147483647) sorted ∙ same_int (fold int_max (negsuc 2147483647) (map (along axis) sorted)) last under over

-- the first lies least far
least_is : (axis : Axis) (part sorted : List Spot) (d : Spot) → IsPermutation part sorted → IsSortedBy (comes_before axis) sorted → 0 < length sorted → along axis (get_or sorted 0 d) ≤ℤ pos 2147483647
    → least axis part ≡ along axis (get_or sorted 0 d)
least_is axis part sorted d same up some high =
    let first : ℤ = along axis (get_or sorted 0 d) in
    let bounds = fold-int_min_bounds (pos 2147483647) (map (along axis) sorted) (fold int_min (pos 2147483647) (map (along axis) sorted)) refl in
    let all : All (λ (spot : Spot). first ≤ℤ along axis spot) sorted =
    λ k e lt. not_before axis (get_or sorted k e) (get_or sorted 0 d)
    (subst (λ (s : Spot). comes_before axis (get_or sorted k e) s ≡ false) (get_or_default sorted 0 e d some) (sorted_far (comes_before axis) (before_order axis) sorted up 0 k e (omega arith) lt)) in
    let over : first ≤ℤ fold int_min (pos 2147483647) (map (along axis) sorted) =
    ⊎_elim
    (λ (most : fold int_min (pos 2147483647) (map (along axis) sorted) ≡ pos 2147483647). subst (λ (r : ℤ). first ≤ℤ r) (sym most) high)
    (λ (inside : Contains (map (along axis) sorted) (fold int_min (pos 2147483647) (map (along axis) sorted))).
    All-contains (λ (x : ℤ). first ≤ℤ x) (map (along axis) sorted) (fold int_min (pos 2147483647) (map (along axis) sorted)) (All-map-along axis sorted (λ (x : ℤ). first ≤ℤ x) all) inside)
    (fold-int_min_reached (pos 2147483647) (map (along axis) sorted) (fold int_min (pos 2147483647) (map (along axis) sorted)) refl) in
    let under : fold int_min (pos 2147483647) (map (along axis) sorted) ≤ℤ first =
    All-contains (λ (x : ℤ). fold int_min (pos 2147483647) (map (along axis) sorted) ≤ℤ x) (map (along axis) sorted) first bounds.1 (Contains-along axis sorted 0 d some) in
    least-permutation axis part sorted same ∙ fold_along int_min axis (pos 2147483647) sorted ∙ same_int (fold int_min (pos 2147483647) (map (along axis) sorted)) first under over

-- a part is as wide as its list in order along the axis
pub width_is : (axis : Axis) (part sorted : List Spot) (d e : Spot) (first last : ℤ) → IsPermutation part sorted → IsSortedBy (comes_before axis) sorted → 0 < length sorted
    → first ≡ along axis (get_or sorted 0 d) → last ≡ along axis (get_or sorted (length sorted - 1) e) → first ≤ℤ pos 2147483647 → negsuc 2147483647 ≤ℤ last → width axis part ≡ last -ℤ first
width_is axis part sorted d e first last same up some at_first at_last high low =
    let top : greatest axis part ≡ last = greatest_is axis part sorted e same up some (subst (λ (z : ℤ). negsuc 2147483647 ≤ℤ z) at_last low) ∙ sym at_last in
    let bottom : least axis part ≡ first = least_is axis part sorted d same up some (subst (λ (z : ℤ). z ≤ℤ pos 2147483647) at_first high) ∙ sym at_first in
    ap (λ z. z -ℤ least axis part) top ∙ ap (λ z. last -ℤ z) bottom
