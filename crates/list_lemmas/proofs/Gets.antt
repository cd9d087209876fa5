-- `slice_get` of a list with one more element, one changed, or a part cut out.
use Rattle.std.proofs.Common.{◌≡◌, ◌≢◌, ℕ, zero, suc, ◌+◌, ◌-◌, ◌<◌, ◌≤◌, ◌⊎◌, inl, inr, List, [], ◌∷◌, ◌++◌, length, get_or, take, drop, Some, All, arith, refl, sym, ◌∙◌, ap, subst, length-append, length-drop, get_or-set_other, get_or-set_same}
use Rattle.std.specs.List.{slice_get, Contains}
use Rattle.std.proofs.lemmas.Option.{slice_get_within, get_or_from_slice_get, slice_get_read, same_Some}
use Rattle.std.proofs.lemmas.List.{get_or-take, get_or-drop, length-take-le}
use Rattle.std.proofs.lemmas.Bool.{cases_lt}
use Rattle.std.proofs.Math.ListN.{set, get_or-append, length-set}
use Rattle.std.proofs.Math.Seq.{get_or-append_seam}
use Rattle.std.proofs.Math.Nat.{eq-or-lt_of_le}

module _ {X : Type 0} where
  -- an element by its index, as `get_or` has it
  pub get_is : (xs : List X) (k : ℕ) (x : X) → k < length xs → get_or xs k x ≡ x → slice_get xs k ≡ Some x
  get_is xs k x h e = slice_get_read xs (length xs) k x refl h (sym e)

  -- within the list there is an element
  pub get_some : (xs : List X) (k : ℕ) → k < length xs → (x : X) × (slice_get xs k ≡ Some x)
  get_some (x ∷ xs) zero h = (x, refl)
  get_some (x ∷ xs) (suc k) h = let lt : k < length xs = omega arith in get_some xs k lt
  get_some [] k h = absurd (omega arith)

  pub Contains_get : (xs : List X) (k : ℕ) (x : X) → slice_get xs k ≡ Some x → Contains xs x
  Contains_get xs k x e = (k, slice_get_within xs k x e, get_or_from_slice_get xs k x x e)

  pub get_Contains : (xs : List X) (x : X) → Contains xs x → (k : ℕ) × (slice_get xs k ≡ Some x)
  get_Contains xs x h = (h.0, get_is xs h.0 x h.1 h.2)

  -- what holds of all elements holds of one
  pub All_get : (P : X → Type 0) (xs : List X) (k : ℕ) (x : X) → All P xs → slice_get xs k ≡ Some x → P x
  All_get P xs k x all e =
      let g : get_or xs k x ≡ x = get_or_from_slice_get xs k x x e in
      subst P g (all k x (slice_get_within xs k x e))

  -- a list behind keeps what is in front
  pub get_append : (xs ys : List X) (k : ℕ) (x : X) → slice_get xs k ≡ Some x → slice_get (xs ++ ys) k ≡ Some x
  get_append xs ys k x e =
      let lt : k < length xs = slice_get_within xs k x e in
      let lt2 : k < length (xs ++ ys) = omega (arith, length-append xs ys) in
      get_is (xs ++ ys) k x lt2 (get_or-append xs ys x k lt ∙ get_or_from_slice_get xs k x x e)

  pub get_pushed : (xs : List X) (y : X) → slice_get (xs ++ y ∷ []) (length xs) ≡ Some y
  get_pushed xs y =
      let lt2 : length xs < length (xs ++ y ∷ []) = omega (arith, length-append xs (y ∷ [])) in
      get_is (xs ++ y ∷ []) (length xs) y lt2 (get_or-append_seam xs y [] y)

  -- an element of a list with y behind it is an element of the list, or y at its end
  pub get_push : (xs : List X) (y : X) (k : ℕ) (x : X) → slice_get (xs ++ y ∷ []) k ≡ Some x → (slice_get xs k ≡ Some x) ⊎ ((k ≡ length xs) × (x ≡ y))
  get_push xs y k x e =
      let lt2 : k < length (xs ++ y ∷ []) = slice_get_within (xs ++ y ∷ []) k x e in
      let le : k ≤ length xs = omega (arith, length-append xs (y ∷ [])) in
      elim (eq-or-lt_of_le le) [
        | inl i ↦ inr (i, same_Some x y (sym e ∙ ap (slice_get (xs ++ y ∷ [])) i ∙ get_pushed xs y))
        | inr lt ↦ inl (get_is xs k x lt (sym (get_or-append xs (y ∷ []) x k lt) ∙ get_or_from_slice_get (xs ++ y ∷ []) k x x e))
      ]

  pub Contains_push : (xs : List X) (y x : X) → Contains xs x → Contains (xs ++ y ∷ []) x
  Contains_push xs y x h = let g = get_Contains xs x h in Contains_get (xs ++ y ∷ []) g.0 x (get_append xs (y ∷ []) g.0 x g.1)

  -- an element after a write at i
  pub get_set : (xs : List X) (i k : ℕ) (y x : X) → slice_get (set xs i y) k ≡ Some x → ((k ≡ i) × (x ≡ y)) ⊎ ((k ≢ i) × (slice_get xs k ≡ Some x))
  get_set xs i k y x e =
      let lt2 : k < length (set xs i y) = slice_get_within (set xs i y) k x e in
      let lt : k < length xs = omega (arith, length-set xs i y) in
      let g : get_or (set xs i y) k x ≡ x = get_or_from_slice_get (set xs i y) k x x e in
      let other : k ≢ i → ((k ≡ i) × (x ≡ y)) ⊎ ((k ≢ i) × (slice_get xs k ≡ Some x)) = λ ne. inr (ne, get_is xs k x lt (sym (get_or-set_other xs i k y x ne) ∙ g)) in
      elim (cases_lt k i) [
        | inl l ↦ let ne : k ≢ i = omega arith in other ne
        | inr ge ↦ elim (eq-or-lt_of_le ge) [
          | inl same ↦ let ilt : i < length xs = omega arith in inl (sym same, sym g ∙ ap (λ j. get_or (set xs i y) j x) (sym same) ∙ get_or-set_same xs i y x ilt)
          | inr l ↦ let ne : k ≢ i = omega arith in other ne
        ]
      ]

  -- the part from a up to b
  pub get_part : (xs : List X) (a b k : ℕ) (x : X) → b ≤ length xs → slice_get (take (b - a) (drop a xs)) k ≡ Some x → (a + k < b) × (slice_get xs (a + k) ≡ Some x)
  get_part xs a b k x h e =
      let part : List X = take (b - a) (drop a xs) in
      let n : length (drop a xs) ≡ length xs - a = length-drop a xs in
      let le : b - a ≤ length (drop a xs) = omega arith in
      let len : length part ≡ b - a = length-take-le (b - a) (drop a xs) le in
      let lt : k < length part = slice_get_within part k x e in
      let kb : k < b - a = omega arith in
      let in_xs : a + k < length xs = omega arith in
      (omega arith, get_is xs (a + k) x in_xs (sym (get_or-drop a xs k x) ∙ sym (get_or-take (b - a) (drop a xs) k x kb) ∙ get_or_from_slice_get part k x x e))

  pub part_get : (xs : List X) (a b k : ℕ) (x : X) → b ≤ length xs → a + k < b → slice_get xs (a + k) ≡ Some x → slice_get (take (b - a) (drop a xs)) k ≡ Some x
  part_get xs a b k x h lt e =
      let part : List X = take (b - a) (drop a xs) in
      let n : length (drop a xs) ≡ length xs - a = length-drop a xs in
      let le : b - a ≤ length (drop a xs) = omega arith in
      let len : length part ≡ b - a = length-take-le (b - a) (drop a xs) le in
      let kb : k < b - a = omega arith in
      let klt : k < length part = omega arith in
      get_is part k x klt (get_or-take (b - a) (drop a xs) k x kb ∙ get_or-drop a xs k x ∙ get_or_from_slice_get xs (a + k) x x e)
