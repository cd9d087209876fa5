-- A part in order along both axes, and its halves.
use Rattle.std.proofs.Common.{◌≡◌, ℕ, ◌+◌, ◌<◌, ◌≤◌, Bool, true, false, not, cond, eqb, List, [], ◌∷◌, ◌++◌, length, take, drop, map, get_or, All, Contains, refl, sym, ap, ◌∙◌, subst, arith, zero, suc, length-append, ⊎_elim, Ordering}
use Rattle.std.specs.Cmp.{IsStrictWeakOrder}
use Rattle.std.specs.Ordering.{int_cmp, nat_cmp, ordering_then, ordering_reverse, is_lt}
use Rattle.std.specs.declared.cmp.Ordering.TheVariants.{Less, Equal, Greater}
use Rattle.std.specs.List.{filter, remove}
use Rattle.std.specs.List.Sorted.{IsPermutation, IsSortedBy}
use Rattle.std.proofs.lemmas.Bool.Decides.{nat_tests}
use Rattle.std.proofs.lemmas.Cmp.{then_total, on_total, int_cmp_total, nat_cmp_total}
use Rattle.std.proofs.lemmas.List.{nil_from_length, append-nil, map-append, get_or-take, get_or-drop, length-take-le, take-append-drop, take_all, get_or_default}
use Rattle.std.proofs.lemmas.List.Elements.{All-contains, Contains-append_left, Contains-append_right, Contains-append_cases, Contains-get_or, filter_passes}
use Rattle.std.proofs.lemmas.List.Filters.{length-filter_both}
use Rattle.std.proofs.lemmas.List.Kept.{IsSortedBy-filter}
use Rattle.std.proofs.lemmas.List.MinMax.{ranks_by}
use Rattle.std.proofs.lemmas.List.Sorted.{IsPermutation-refl, IsPermutation-sym, IsPermutation-trans, IsPermutation-cons, IsPermutation-map, IsPermutation-remove, IsPermutation-filter_both, Contains-permutation, length_permutation, sorted_far, sum_by-IsPermutation}
use Rattle.cell_partition.specs.declared.spot.Spot.{Spot}
use Rattle.cell_partition.specs.declared.spot.Axis.{Axis}
use Rattle.cell_partition.specs.declared.spot.Axis.TheVariants.{Longitude, Latitude}
use Rattle.cell_partition.specs.Spots.{along, comes_before}
use Rattle.cell_partition.specs.Orders.{other_axis, AreApart, IsInOrder}
use Rattle.cell_partition.proofs.Numbers.{times, times-append, times-cons}

abbrev vertices : List Spot → List ℕ
vertices spots = map (λ (spot : Spot). spot.vertex) spots

-- each axis orders the spots
pub before_order : (axis : Axis) → IsStrictWeakOrder (comes_before axis)
before_order axis = ranks_by (then_total (on_total (along axis) int_cmp_total) (on_total (λ (spot : Spot). spot.vertex) nat_cmp_total)) (λ (spot : Spot). spot)

goes_before : (p q : Ordering) → is_lt (ordering_then (ordering_reverse p) (ordering_reverse q)) ≡ false → (q ≡ Equal → ⊥) → is_lt (ordering_then p q) ≡ true
goes_before Less q h apart = refl
goes_before Greater q h apart = absurd (cc h)
goes_before Equal Less h apart = refl
goes_before Equal Equal h apart = absurd (apart refl)
goes_before Equal Greater h apart = absurd (cc h)

tied_numbers : (x y : ℕ) → nat_cmp x y ≡ Equal → x ≡ y
tied_numbers x y h = grind (arith, nat_tests)

-- of two vertices, what doesn't come after comes before
one_before : (axis : Axis) (one other : Spot) → comes_before axis other one ≡ false → (one.vertex ≡ other.vertex → ⊥) → comes_before axis one other ≡ true
one_before axis one other h apart =
    let p = int_cmp (along axis one) (along axis other) in
    let q = nat_cmp one.vertex other.vertex in
    let back : is_lt (ordering_then (ordering_reverse p) (ordering_reverse q)) ≡ false =
    ap (λ o. is_lt (ordering_then o (ordering_reverse q))) (sym (int_cmp_total.antisymm (along axis other) (along axis one)))
    ∙ ap (λ o. is_lt (ordering_then (int_cmp (along axis other) (along axis one)) o)) (sym (nat_cmp_total.antisymm other.vertex one.vertex)) ∙ h in
    goes_before p q back (λ e. apart (tied_numbers one.vertex other.vertex e))

one_more : (b : Bool) (n m : ℕ) → m ≡ cond b 1 0 + n → b ≡ true → m ≡ n + 1
one_more true n m e h = omega (arith, e)
one_more false n m e h = absurd (cc h)

one_of : (x spot : Spot) → Contains (x ∷ []) spot → x ≡ spot
one_of x spot (zero, lt, is) = is
one_of x spot (suc k, lt, is) = absurd (omega arith)

has_vertex : (spots : List Spot) (spot : Spot) → Contains spots spot → 1 ≤ times spot.vertex (vertices spots)
has_vertex [] spot h = absurd (omega (arith, h.1))
has_vertex (x ∷ spots) spot h =
    ⊎_elim
    (λ (first : Contains (x ∷ []) spot).
    let is : x ≡ spot = one_of x spot first in
    let test : eqb spot.vertex x.vertex ≡ true = rw is (same_test spot.vertex) in
    omega (arith, one_more (eqb spot.vertex x.vertex) (times spot.vertex (vertices spots)) (times spot.vertex (x.vertex ∷ vertices spots)) (times-cons spot.vertex x.vertex (vertices spots)) test))
    (λ (later : Contains spots spot). omega (arith, times-cons spot.vertex x.vertex (vertices spots), has_vertex spots spot later))
    (Contains-append_cases (x ∷ []) spots spot h)
  where
    same_test : (n : ℕ) → eqb n n ≡ true
    same_test n = grind (arith, nat_tests)

apart_head : (x : Spot) (spots : List Spot) (spot : Spot) → AreApart (x ∷ spots) → Contains spots spot → x.vertex ≡ spot.vertex → ⊥
apart_head x spots spot apart h same =
    let test : eqb x.vertex x.vertex ≡ true = grind (arith, nat_tests) in
    let some : 1 ≤ times x.vertex (vertices spots) = rw same (has_vertex spots spot h) in
    let once : times x.vertex (x.vertex ∷ vertices spots) ≤ 1 = apart x.vertex in
    omega (arith, some, once, one_more (eqb x.vertex x.vertex) (times x.vertex (vertices spots)) (times x.vertex (x.vertex ∷ vertices spots)) (times-cons x.vertex x.vertex (vertices spots)) test)

pub apart_append : (xs ys : List Spot) → AreApart (xs ++ ys) → AreApart xs × AreApart ys
apart_append xs ys apart =
    let both : (vertex : ℕ) → times vertex (vertices (xs ++ ys)) ≡ times vertex (vertices xs) + times vertex (vertices ys) =
    λ vertex. ap (times vertex) (map-append (λ (spot : Spot). spot.vertex) xs ys) ∙ times-append vertex (vertices xs) (vertices ys) in
    (λ vertex. omega (arith, both vertex, apart vertex), λ vertex. omega (arith, both vertex, apart vertex))

pub apart_permutation : (xs ys : List Spot) → IsPermutation xs ys → AreApart xs → AreApart ys
apart_permutation xs ys same apart vertex =
    omega (arith, apart vertex, sum_by-IsPermutation (λ x. cond (eqb vertex x) 1 0) (vertices xs) (vertices ys) (IsPermutation-map (λ (spot : Spot). spot.vertex) xs ys same))

apart_differ : (spots : List Spot) (i j : ℕ) (d : Spot) → AreApart spots → i < j → j < length spots → (get_or spots i d).vertex ≡ (get_or spots j d).vertex → ⊥
apart_differ [] i j d apart below inside same = omega arith
apart_differ (x ∷ spots) i zero d apart below inside same = omega arith
apart_differ (x ∷ spots) zero (suc j) d apart below inside same = apart_head x spots (get_or spots j d) apart (Contains-get_or spots j d (omega arith)) same
apart_differ (x ∷ spots) (suc i) (suc j) d apart below inside same = apart_differ spots i j d (apart_append (x ∷ []) spots apart).1 (omega arith) (omega arith) same

-- spots of a list stand in any other that holds them all, with the rest behind them
within : (xs ys : List Spot) → AreApart xs → ((spot : Spot) → Contains xs spot → Contains ys spot) → (rest : List Spot) × IsPermutation ys (xs ++ rest)
within [] ys apart all = (ys, IsPermutation-refl ys)
within (x ∷ xs) ys apart all =
    let at = all x (zero, omega arith, refl) in
    let left : List Spot = remove ys at.0 in
    let out : IsPermutation ys (x ∷ left) = IsPermutation-remove ys at.0 x at.1 (sym at.2) in
    let later : (spot : Spot) → Contains xs spot → Contains left spot =
    λ spot h.
    ⊎_elim
    (λ (first : Contains (x ∷ []) spot). absurd (apart_head x xs spot apart h (ap (λ (s : Spot). s.vertex) (one_of x spot first))))
    (λ (rest : Contains left spot). rest)
    (Contains-append_cases (x ∷ []) left spot (Contains-permutation ys (x ∷ left) spot out (all spot (Contains-append_right (x ∷ []) xs spot h)))) in
    let more = within xs left (apart_append (x ∷ []) xs apart).1 later in
    (more.0, IsPermutation-trans ys (x ∷ left) (x ∷ (xs ++ more.0)) out (IsPermutation-cons x left (xs ++ more.0) more.1))

passes : (p q : Spot → Bool) (other : (spot : Spot) → q spot ≡ not (p spot)) (spots : List Spot) (spot : Spot) → Contains spots spot → p spot ≡ true → Contains (filter p spots) spot
passes p q other spots spot h pass =
    ⊎_elim
    (λ (first : Contains (filter p spots) spot). first)
    (λ (second : Contains (filter q spots) spot).
    let is : q spot ≡ true = All-contains (λ (s : Spot). q s ≡ true) (filter q spots) spot (filter_passes q spots) second in
    absurd (no_both (p spot) (q spot) (other spot) pass is))
    (Contains-append_cases (filter p spots) (filter q spots) spot (Contains-permutation spots (filter p spots ++ filter q spots) spot (IsPermutation-filter_both p q other spots) h))
  where
    no_both : (a b : Bool) → b ≡ not a → a ≡ true → b ≡ true → ⊥
    no_both true b e h k = cc (e, k)
    no_both false b e h k = cc h

sorted_take : (lt : Spot → Spot → Bool) (n : ℕ) (spots : List Spot) → n ≤ length spots → IsSortedBy lt spots → IsSortedBy lt (take n spots)
sorted_take lt n spots fits up k d low high =
    let long = length-take-le n spots fits in
    rw (get_or-take n spots (k + 1) d (omega arith), get_or-take n spots k d (omega arith)) (up k d low (omega arith))

sorted_drop : (lt : Spot → Spot → Bool) (n : ℕ) (spots : List Spot) → n ≤ length spots → IsSortedBy lt spots → IsSortedBy lt (drop n spots)
sorted_drop lt n spots fits up k d low high =
    let whole : length (take n spots) + length (drop n spots) ≡ length spots = sym (length-append (take n spots) (drop n spots)) ∙ ap length (take-append-drop n spots) in
    let long = length-take-le n spots fits in
    let next : n + (k + 1) ≡ n + k + 1 = omega arith in
    rw (get_or-drop n spots (k + 1) d, get_or-drop n spots k d, next) (up (n + k) d (omega arith) (omega arith))

-- the other way round
pub turned : (axis new : Axis) (along across : List Spot) → new ≡ other_axis axis → IsInOrder axis along across → IsInOrder new across along
turned axis new along across is h = record {
  same = IsPermutation-sym along across h.same;
  in_order = subst (λ (a : Axis). IsSortedBy (comes_before a) across) (sym is) h.in_order_across;
  in_order_across = subst (λ (a : Axis). IsSortedBy (comes_before a) along) (sym (twice axis) ∙ ap other_axis (sym is)) h.in_order;
  apart = apart_permutation along across h.same h.apart;
}
  where
    twice : (axis : Axis) → other_axis (other_axis axis) ≡ axis
    twice Longitude = refl
    twice Latitude = refl

module _ (axis : Axis) (first second across : List Spot) (bound : Spot) (same : IsPermutation (first ++ second) across) (apart : AreApart (first ++ second))
    (low : All (λ (spot : Spot). comes_before axis spot bound ≡ true) first) (high : All (λ (spot : Spot). comes_before axis spot bound ≡ false) second) where
  abbrev p : Spot → Bool
  p spot = comes_before axis spot bound

  abbrev q : Spot → Bool
  q spot = not (comes_before axis spot bound)

  both_sides : IsPermutation first (filter p across) × IsPermutation second (filter q across)
  both_sides =
      let parts = apart_append first second apart in
      let one = within first (filter p across) parts.0 (λ spot h. passes p q (λ s. refl) across spot (Contains-permutation (first ++ second) across spot same (Contains-append_left first second spot h)) (All-contains (λ (s : Spot). p s ≡ true) first spot low h)) in
      let two = within second (filter q across) parts.1 (λ spot h. passes q p (λ s. again (p s)) across spot (Contains-permutation (first ++ second) across spot same (Contains-append_right first second spot h)) (ap not (All-contains (λ (s : Spot). p s ≡ false) second spot high h))) in
      let size : length (filter p across) + length (filter q across) ≡ length across = length-filter_both p q (λ s. refl) across in
      let all : length across ≡ length first + length second = length_permutation (first ++ second) across same ∙ length-append first second in
      let size1 : length first + length one.0 ≡ length (filter p across) = sym (length-append first one.0) ∙ length_permutation (filter p across) (first ++ one.0) one.1 in
      let size2 : length second + length two.0 ≡ length (filter q across) = sym (length-append second two.0) ∙ length_permutation (filter q across) (second ++ two.0) two.1 in
      let none1 : one.0 ≡ [] = nil_from_length one.0 (omega arith) in
      let none2 : two.0 ≡ [] = nil_from_length two.0 (omega arith) in (
        IsPermutation-sym (filter p across) first (subst (λ (xs : List Spot). IsPermutation (filter p across) xs) (ap (λ xs. first ++ xs) none1 ∙ append-nil first) one.1),
        IsPermutation-sym (filter q across) second (subst (λ (xs : List Spot). IsPermutation (filter q across) xs) (ap (λ xs. second ++ xs) none2 ∙ append-nil second) two.1),
      )
    where
      again : (b : Bool) → b ≡ not (not b)
      again true = refl
      again false = refl

-- the halves of a part, each in order along both axes
halves_in_order : (axis : Axis) (along across : List Spot) (half : ℕ) (bound : Spot) → half < length along → bound ≡ get_or along half bound → IsInOrder axis along across
    → IsInOrder axis (take half along) (filter (λ (spot : Spot). comes_before axis spot bound) across) × IsInOrder axis (drop half along) (filter (λ (spot : Spot). not (comes_before axis spot bound)) across)
halves_in_order axis along across half bound inside is h =
    let order = before_order axis in
    let long = length-take-le half along (omega arith) in
    let whole : take half along ++ drop half along ≡ along = take-append-drop half along in
    let rest : length (take half along) + length (drop half along) ≡ length along = sym (length-append (take half along) (drop half along)) ∙ ap length whole in
    let same : IsPermutation (take half along ++ drop half along) across = subst (λ (xs : List Spot). IsPermutation xs across) (sym whole) h.same in
    let apart : AreApart (take half along ++ drop half along) = subst AreApart (sym whole) h.apart in
    let at : (d : Spot) → get_or along half d ≡ bound = λ d. get_or_default along half d bound inside ∙ sym is in
    let low : All (λ (spot : Spot). comes_before axis spot bound ≡ true) (take half along) =
    λ k d lt.
    let differ : (get_or along k d).vertex ≡ bound.vertex → ⊥ = λ e. apart_differ along k half d h.apart (omega arith) inside (e ∙ ap (λ (s : Spot). s.vertex) (sym (at d))) in
    let after : comes_before axis bound (get_or along k d) ≡ false = subst (λ (s : Spot). comes_before axis s (get_or along k d) ≡ false) (at d) (sorted_far (comes_before axis) order along h.in_order k half d (omega arith) inside) in
    rw (get_or-take half along k d (omega arith)) (one_before axis (get_or along k d) bound after differ) in
    let high : All (λ (spot : Spot). comes_before axis spot bound ≡ false) (drop half along) =
    λ k d lt.
    rw (get_or-drop half along k d) (subst (λ (s : Spot). comes_before axis (get_or along (half + k) d) s ≡ false) (at d) (sorted_far (comes_before axis) order along h.in_order half (half + k) d (omega arith) (omega arith))) in
    let both = both_sides axis (take half along) (drop half along) across bound same apart low high in
    let parts = apart_append (take half along) (drop half along) apart in (
      record {
        same = both.0;
        in_order = sorted_take (comes_before axis) half along (omega arith) h.in_order;
        in_order_across = IsSortedBy-filter (comes_before (other_axis axis)) (before_order (other_axis axis)) (λ (spot : Spot). comes_before axis spot bound) across h.in_order_across;
        apart = parts.0;
      },
      record {
        same = both.1;
        in_order = sorted_drop (comes_before axis) half along (omega arith) h.in_order;
        in_order_across = IsSortedBy-filter (comes_before (other_axis axis)) (before_order (other_axis axis)) (λ (spot : Spot). not (comes_before axis spot bound)) across h.in_order_across;
        apart = parts.1;
      },
    )

pub first_in_order : (axis : Axis) (along across first : List Spot) (half i : ℕ) (d : Spot) → half < length along → length across ≤ i → IsInOrder axis along across
    → first ≡ filter (λ (spot : Spot). comes_before axis spot (get_or along half d)) (take i across) → IsInOrder axis (take half along) first
first_in_order axis along across first half i d inside past h is =
    subst (λ (xs : List Spot). IsInOrder axis (take half along) xs) (sym (is ∙ ap (filter (λ (spot : Spot). comes_before axis spot (get_or along half d))) (take_all i across past)))
    (halves_in_order axis along across half (get_or along half d) inside (get_or_default along half d (get_or along half d) inside) h).0

pub second_in_order : (axis : Axis) (along across second : List Spot) (half i : ℕ) (d : Spot) → half < length along → length across ≤ i → IsInOrder axis along across
    → second ≡ filter (λ (spot : Spot). not (comes_before axis spot (get_or along half d))) (take i across) → IsInOrder axis (drop half along) second
second_in_order axis along across second half i d inside past h is =
    subst (λ (xs : List Spot). IsInOrder axis (drop half along) xs) (sym (is ∙ ap (filter (λ (spot : Spot). not (comes_before axis spot (get_or along half d)))) (take_all i across past)))
    (halves_in_order axis along across half (get_or along half d) inside (get_or_default along half d (get_or along half d) inside) h).1

-- spots sorted along each axis are a part in order
pub sorted_twice : (axis : Axis) (spots along across : List Spot) → AreApart spots → IsPermutation spots along → IsSortedBy (comes_before axis) along → IsPermutation spots across → IsSortedBy (comes_before (other_axis axis)) across
    → IsInOrder axis along across
sorted_twice axis spots along across apart one up two up_across = record {
  same = IsPermutation-trans along spots across (IsPermutation-sym spots along one) two;
  in_order = up;
  in_order_across = up_across;
  apart = apart_permutation spots along one apart;
}
