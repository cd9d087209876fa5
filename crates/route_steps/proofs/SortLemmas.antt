-- A list that is sorted by a key, which is one of few numbers, is its elements of each key, one key after the other.
use Rattle.std.proofs.Common.{◌≡◌, ℕ, zero, suc, ◌+◌, ◌<◌, ◌≤◌, Bool, true, false, cond, List, [], ◌∷◌, ◌++◌, All, arith, ap, ap₂, eqb, filter, map, refl, sym, ◌∙◌}
use Rattle.std.specs.List.{flat_map, range_with_len}
use Rattle.std.specs.List.Sorted.{IsNonDecreasingBy}
use Rattle.std.proofs.lemmas.Bool.{cond-false, cond-true, eq-eqb, eqb-false, eqb-true, ne_eqb}
use Rattle.std.proofs.lemmas.List.{map-append}
use Rattle.std.proofs.lemmas.List.Elements.{All-head, All-tail}

-- lists made alike from each element are one list when joined
pub flat_map-same : {X A : Type 0} (f g : X → List A) (same : (x : X) → f x ≡ g x) (xs : List X) → flat_map f xs ≡ flat_map g xs
flat_map-same f g same [] = refl
flat_map-same f g same (x ∷ xs) = ap₂ (λ a b. a ++ b) (same x) (flat_map-same f g same xs)

-- what is mapped when joined is joined when mapped
pub map-flat_map : {X A B : Type 0} (h : A → B) (f : X → List A) (xs : List X) → flat_map (λ x. map h (f x)) xs ≡ map h (flat_map f xs)
map-flat_map h f [] = refl
map-flat_map h f (x ∷ xs) = ap (λ l. map h (f x) ++ l) (map-flat_map h f xs) ∙ sym (map-append h (f x) (flat_map f xs))

pub filter-map : {X Y : Type 0} (f : X → Y) (p : Y → Bool) (xs : List X) → filter p (map f xs) ≡ map f (filter (λ x. p (f x)) xs)
filter-map f p [] = refl
filter-map {X} {Y} f p (x ∷ xs) =
    elim (p (f x)) as (λ b. cond b (f x ∷ filter p (map f xs)) (filter p (map f xs)) ≡ map f (cond b (x ∷ filter (λ y. p (f y)) xs) (filter (λ y. p (f y)) xs))) [
      | true ↦ ap (λ l. f x ∷ l) (filter-map f p xs)
      | false ↦ filter-map f p xs
    ]

module _ {X : Type 0} (n : X → ℕ) where
  -- the elements of one key
  abbrev with_key : List X → ℕ → List X
  with_key xs k = filter (λ x. eqb (n x) k) xs

  with_key-other : (x : X) (xs : List X) (k : ℕ) → (n x ≡ k → ⊥) → with_key (x ∷ xs) k ≡ with_key xs k
  with_key-other x xs k other = cond-false (eqb (n x) k) (x ∷ with_key xs k) (with_key xs k) (ne_eqb (n x) k other)

  with_key-same : (x : X) (xs : List X) (k : ℕ) → n x ≡ k → with_key (x ∷ xs) k ≡ x ∷ with_key xs k
  with_key-same x xs k same = cond-true (eqb (n x) k) (x ∷ with_key xs k) (with_key xs k) (eq-eqb (n x) k same)

  -- none has a key below all of theirs
  with_key-none : (xs : List X) (low k : ℕ) → All (λ x. low ≤ n x) xs → k < low → with_key xs k ≡ []
  with_key-none [] low k all lt = refl
  with_key-none (x ∷ xs) low k all lt =
      with_key-other x xs k (λ e. omega (arith, All-head (λ x. low ≤ n x) x xs all, e, lt)) ∙ with_key-none xs low k (All-tail (λ x. low ≤ n x) x xs all) lt

  -- an element whose key is below all of these counts for none
  keys-other : (x : X) (xs : List X) (a m : ℕ) → n x < a → flat_map (with_key (x ∷ xs)) (range_with_len a m) ≡ flat_map (with_key xs) (range_with_len a m)
  keys-other x xs a zero lt = refl
  keys-other x xs a (suc m) lt =
      ap₂ (λ k l. k ++ l) (with_key-other x xs a (λ e. omega (arith, e, lt))) (keys-other x xs (a + 1) m (omega (arith, lt)))

  -- one whose key is no higher than those of the others stands first
  keys-first : (x : X) (xs : List X) (a m : ℕ) → All (λ y. n x ≤ n y) xs → a ≤ n x → n x < a + m → flat_map (with_key (x ∷ xs)) (range_with_len a m) ≡ x ∷ flat_map (with_key xs) (range_with_len a m)
  keys-first x xs a zero all le lt = absurd (omega (arith, le, lt))
  keys-first x xs a (suc m) all le lt =
      let here : n x ≡ a → flat_map (with_key (x ∷ xs)) (range_with_len a (suc m)) ≡ x ∷ flat_map (with_key xs) (range_with_len a (suc m)) = λ e.
      ap₂ (λ k l. k ++ l) (with_key-same x xs a e) (keys-other x xs (a + 1) m (omega (arith, e))) in
      let later : (n x ≡ a → ⊥) → flat_map (with_key (x ∷ xs)) (range_with_len a (suc m)) ≡ x ∷ flat_map (with_key xs) (range_with_len a (suc m)) = λ other.
      let up : a < n x = omega (arith, le, other) in
      let none : with_key xs a ≡ [] = with_key-none xs (n x) a all up in
      ap₂ (λ k l. k ++ l) (with_key-other x xs a other ∙ none) (keys-first x xs (a + 1) m all (omega (arith, up)) (omega (arith, lt)))
      ∙ sym (ap (λ k. x ∷ (k ++ flat_map (with_key xs) (range_with_len (a + 1) m))) none) in
      elim (eqb (n x) a) as (λ b. eqb (n x) a ≡ b → flat_map (with_key (x ∷ xs)) (range_with_len a (suc m)) ≡ x ∷ flat_map (with_key xs) (range_with_len a (suc m))) [
        | true ↦ λ e. here (eqb-true (n x) a e)
        | false ↦ λ e. later (eqb-false (n x) a e)
      ] refl

  keys-nil : (a m : ℕ) → flat_map (with_key []) (range_with_len a m) ≡ []
  keys-nil a zero = refl
  keys-nil a (suc m) = keys-nil (a + 1) m

  IsNonDecreasingBy-head : (x : X) (xs : List X) → IsNonDecreasingBy n (x ∷ xs) → All (λ y. n x ≤ n y) xs
  IsNonDecreasingBy-head x xs sorted = λ k d lt. sorted 0 (suc k) d (omega arith) (omega (arith, lt))

  IsNonDecreasingBy-rest : (x : X) (xs : List X) → IsNonDecreasingBy n (x ∷ xs) → IsNonDecreasingBy n xs
  IsNonDecreasingBy-rest x xs sorted = λ i j d le lt. sorted (suc i) (suc j) d (omega (arith, le)) (omega (arith, lt))

  -- a sorted list is its elements of each key in turn
  pub by_keys : (xs : List X) (m : ℕ) → IsNonDecreasingBy n xs → All (λ x. n x < m) xs → xs ≡ flat_map (with_key xs) (range_with_len 0 m)
  by_keys [] m sorted below = sym (keys-nil 0 m)
  by_keys (x ∷ xs) m sorted below =
      ap (λ l. x ∷ l) (by_keys xs m (IsNonDecreasingBy-rest x xs sorted) (All-tail (λ x. n x < m) x xs below))
      ∙ sym (keys-first x xs 0 m (IsNonDecreasingBy-head x xs sorted) (omega arith) (omega (arith, All-head (λ x. n x < m) x xs below)))
