-- What is kept of a list: all those that stand at one number.
use Rattle.std.proofs.Common.{◌≡◌, ℕ, ◌==◌, ◌⊎◌, inl, inr, Bool, true, false, cond, List, [], ◌∷◌, arith, sym, subst}
use Rattle.std.specs.List.{Contains, filter}
use Rattle.std.proofs.lemmas.Bool.Decides.{Decides-eqb}
use Rattle.std.proofs.lemmas.List.Elements.{All-contains, All-contains_itself, All-filter, Contains-append_cases, Contains-append_left, Contains-append_right, filter_passes}
use Rattle.list_lemmas.proofs.Singles.{Contains_one, only_one}
use Rattle.road_places.specs.Ends.{AreAll}

module _ {E : Type 0} (key : E → ℕ) (n : ℕ) where
  -- one more in front, where it passes
  in_front : (b : Bool) (y x : E) (rest : List E) → Contains rest x ⊎ ((x ≡ y) × (b ≡ true)) → Contains (cond b (y ∷ rest) rest) x
  in_front true y x rest (inl h) = Contains-append_right (y ∷ []) rest x h
  in_front true y x rest (inr e) = Contains-append_left (y ∷ []) rest x (subst (λ z. Contains (y ∷ []) z) (sym e.0) (Contains_one y))
  in_front false y x rest (inl h) = h
  in_front false y x rest (inr e) = let never : false ≡ true = e.1 in cc

  -- what stands at the number is kept
  pub kept-has : (xs : List E) (x : E) → Contains xs x → key x ≡ n → Contains (filter (λ y. key y == n) xs) x
  kept-has [] x h at = absurd (omega (arith, h.1))
  kept-has (y ∷ ys) x h at = in_front (key y == n) y x (filter (λ z. key z == n) ys) (elim (Contains-append_cases (y ∷ []) ys x h) [
    | inl one ↦
        let same = only_one y x one in
        inr (same, (Decides-eqb (key y) n).1 (subst (λ z. key z ≡ n) same at))
    | inr more ↦ inl (kept-has ys x more at)
  ])

  -- what is kept was there, and stands at the number
  pub has-kept : (xs : List E) (x : E) → Contains (filter (λ y. key y == n) xs) x → Contains xs x × (key x ≡ n)
  has-kept xs x h = (
    All-contains (Contains xs) (filter (λ y. key y == n) xs) x (All-filter (λ y. key y == n) (Contains xs) xs (All-contains_itself xs)) h,
    (Decides-eqb (key x) n).0 (All-contains (λ y. (key y == n) ≡ true) (filter (λ y. key y == n) xs) x (filter_passes (λ y. key y == n) xs) h),
  )

  -- of all of which P holds those are kept of which P holds and that stand at the number
  pub are_all-kept : (P : E → Type 0) (xs kept : List E) → AreAll P xs → kept ≡ filter (λ y. key y == n) xs → AreAll (λ x. P x × (key x ≡ n)) kept
  are_all-kept P xs kept all e = subst (AreAll (λ x. P x × (key x ≡ n))) (sym e) (record {
    each = λ x h. let had = has-kept xs x h in (all.each x had.0, had.1);
    every = λ x h. kept-has xs x (all.every x h.0) h.1;
  })
