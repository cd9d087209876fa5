-- What isn't found by halves in a list that ascends isn't in it, and such a list of numbers below n has at most n.
use Rattle.std.proofs.Common.{◌≡◌, ℕ, zero, suc, ◌<◌, ◌≤◌, inl, inr, cond, List, [], ◌∷◌, length, get_or, Some, Err, refl, sym, ◌∙◌, ap, arith}
use Rattle.std.specs.List.{Contains, slice_get}
use Rattle.std.specs.List.Sorted.{IsStrictlyIncreasing, IsBinarySearchResult}
use Rattle.std.specs.Ordering.{nat_cmp}
use Rattle.std.proofs.lemmas.Bool.{cases_lt}
use Rattle.std.proofs.lemmas.List.Kept.{AllPairs-from_increasing}
use Rattle.std.proofs.lemmas.List.Sorted.{searched}
use Rattle.std.proofs.Math.Nat.{eq-or-lt_of_le}
use Rattle.std.proofs.lemmas.Option.{same_Some, slice_get_within, slice_get-get_or}
use Rattle.std.proofs.lemmas.Bool.Decides.{eqb_tells}
use Rattle.list_lemmas.proofs.Gets.{Contains_get, get_Contains}
use Rattle.column_search.specs.Backward.{place_in}

pub not_found : (xs : List ℕ) (x i : ℕ) → IsStrictlyIncreasing xs → IsBinarySearchResult (λ y. nat_cmp y x) xs (Err i) → ¬ Contains xs x
not_found xs x i up found h =
    let pairs = AllPairs-from_increasing xs up in
    let rises : (k l : ℕ) → k ≤ l → l < length xs → get_or xs k 0 ≤ get_or xs l 0 = λ k l le lt. elim (eq-or-lt_of_le le) [
      | inl same ↦ let e : get_or xs k 0 ≡ get_or xs l 0 = ap (λ (n : ℕ). get_or xs n 0) same in omega arith
      | inr less ↦ omega (arith, pairs k l 0 less lt)
    ] in
    let r = searched xs x (Err i) found rises in
    let g = get_Contains xs x h in
    let within : g.0 < length xs = slice_get_within xs g.0 x g.1 in
    let here : get_or xs g.0 0 ≡ x = same_Some (get_or xs g.0 0) x (sym (slice_get-get_or xs g.0 0 within) ∙ g.1) in
    elim (cases_lt g.0 i) [
      | inl less ↦ omega (arith, r.1 g.0 less, here)
      | inr le ↦ omega (arith, r.2 g.0 le within, here)
    ]

module _ (xs : List ℕ) (up : IsStrictlyIncreasing xs) where
  -- each number is at least its place
  at_least : (i : ℕ) → i < length xs → i ≤ get_or xs i 0
  at_least zero lt = omega arith
  at_least (suc i) lt =
      let before : i ≤ get_or xs i 0 = at_least i (omega arith) in
      let less : get_or xs i 0 < get_or xs (suc i) 0 = AllPairs-from_increasing xs up i (suc i) 0 (omega arith) lt in
      omega arith

  by_length : (n m : ℕ) → length xs ≡ m → ((x : ℕ) → Contains xs x → x < n) → m ≤ n
  by_length n zero e below = omega arith
  by_length n (suc m) e below =
      let lt : m < length xs = omega arith in
      let last : m ≤ get_or xs m 0 = at_least m lt in
      let less : get_or xs m 0 < n = below (get_or xs m 0) (Contains_get xs m (get_or xs m 0) (slice_get-get_or xs m 0 lt)) in
      omega arith

  -- so there are at most n below n
  pub few_below : (n : ℕ) → ((x : ℕ) → Contains xs x → x < n) → length xs ≤ n
  few_below n below = by_length n (length xs) refl below

-- two places of one number are one
same_place : (xs : List ℕ) (i j x : ℕ) → IsStrictlyIncreasing xs → slice_get xs i ≡ Some x → slice_get xs j ≡ Some x → i ≡ j
same_place xs i j x up a b =
    let pairs = AllPairs-from_increasing xs up in
    let la : i < length xs = slice_get_within xs i x a in
    let lb : j < length xs = slice_get_within xs j x b in
    let ea : get_or xs i 0 ≡ x = same_Some (get_or xs i 0) x (sym (slice_get-get_or xs i 0 la) ∙ a) in
    let eb : get_or xs j 0 ≡ x = same_Some (get_or xs j 0) x (sym (slice_get-get_or xs j 0 lb) ∙ b) in
    elim (cases_lt i j) [
      | inl less ↦ absurd (omega (arith, pairs i j 0 less lb, ea, eb))
      | inr le ↦ elim (eq-or-lt_of_le le) [
        | inl same ↦ sym same
        | inr less ↦ absurd (omega (arith, pairs j i 0 less la, ea, eb))
      ]
    ]

-- where the first place lies before the end, the number stands there
pub place_there : (xs : List ℕ) (x : ℕ) → place_in xs x < length xs → slice_get xs (place_in xs x) ≡ Some x
place_there [] x lt = absurd (omega arith)
place_there (y ∷ xs) x lt = elim (eqb_tells y x) [
  | inl p ↦ let e : place_in (y ∷ xs) x ≡ 0 = ap (λ b. cond b 0 (suc (place_in xs x))) p.0 in ap (slice_get (y ∷ xs)) e ∙ ap Some p.1
  | inr p ↦
      let e : place_in (y ∷ xs) x ≡ suc (place_in xs x) = ap (λ b. cond b 0 (suc (place_in xs x))) p.0 in
      let less : place_in xs x < length xs = omega (arith, lt, e) in
      ap (slice_get (y ∷ xs)) e ∙ place_there xs x less
]

-- it is before each place of the number
place_le : (xs : List ℕ) (k x : ℕ) → slice_get xs k ≡ Some x → place_in xs x ≤ k
place_le [] k x h = let lt : k < length {A = ℕ} [] = slice_get_within [] k x h in absurd (omega arith)
place_le (y ∷ xs) zero x h = elim (eqb_tells y x) [
  | inl p ↦ let e : place_in (y ∷ xs) x ≡ 0 = ap (λ b. cond b 0 (suc (place_in xs x))) p.0 in omega (arith, e)
  | inr p ↦ absurd (p.1 (same_Some y x h))
]
place_le (y ∷ xs) (suc k) x h = elim (eqb_tells y x) [
  | inl p ↦ let e : place_in (y ∷ xs) x ≡ 0 = ap (λ b. cond b 0 (suc (place_in xs x))) p.0 in omega (arith, e)
  | inr p ↦
      let e : place_in (y ∷ xs) x ≡ suc (place_in xs x) = ap (λ b. cond b 0 (suc (place_in xs x))) p.0 in
      let rest : place_in xs x ≤ k = place_le xs k x h in
      omega (arith, e, rest)
]

place_most : (xs : List ℕ) (x : ℕ) → place_in xs x ≤ length xs
place_most [] x = omega arith
place_most (y ∷ xs) x = elim (eqb_tells y x) [
  | inl p ↦ let e : place_in (y ∷ xs) x ≡ 0 = ap (λ b. cond b 0 (suc (place_in xs x))) p.0 in omega (arith, e)
  | inr p ↦
      let e : place_in (y ∷ xs) x ≡ suc (place_in xs x) = ap (λ b. cond b 0 (suc (place_in xs x))) p.0 in
      let rest : place_in xs x ≤ length xs = place_most xs x in
      omega (arith, e, rest)
]

-- so a number of the list has one
pub place_found : (xs : List ℕ) (x : ℕ) → Contains xs x → slice_get xs (place_in xs x) ≡ Some x
place_found xs x h =
    let g = get_Contains xs x h in
    let le : place_in xs x ≤ g.0 = place_le xs g.0 x g.1 in
    let lt : g.0 < length xs = slice_get_within xs g.0 x g.1 in
    place_there xs x (omega arith)

-- which is the only one where the list ascends
pub place_is : (xs : List ℕ) (i x : ℕ) → IsStrictlyIncreasing xs → slice_get xs i ≡ Some x → place_in xs x ≡ i
place_is xs i x up h = same_place xs (place_in xs x) i x up (place_found xs x (Contains_get xs i x h)) h

-- and any other has none
pub place_none : (xs : List ℕ) (x : ℕ) → (¬ Contains xs x) → place_in xs x ≡ length xs
place_none xs x n = elim (cases_lt (place_in xs x) (length xs)) [
  | inl lt ↦ absurd (n (Contains_get xs (place_in xs x) x (place_there xs x lt)))
  | inr le ↦ let most : place_in xs x ≤ length xs = place_most xs x in omega arith
]
