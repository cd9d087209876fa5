-- Lists of numbers in which none stands twice.
use Rattle.std.proofs.Common.{◌≡◌, ℕ, suc, ◌+◌, ◌*◌, ◌<◌, ◌≤◌, ◌⊎◌, inl, inr, true, false, List, [], ◌∷◌, length, arith}
use Rattle.std.specs.List.{IsDistinct, AllByRecursion, list_any}
use Rattle.std.proofs.Math.Dec.{eqb}
use Rattle.std.proofs.lemmas.Bool.Decides.{eqb_tells}
use Rattle.std.proofs.lemmas.Map.Steps.{length-le_from_distinct_below}

-- u is none of a list's, or one of them
pub none_or_any : (u : ℕ) (ks : List ℕ) → AllByRecursion (λ y. eqb u y ≡ false) ks ⊎ (list_any (eqb u) ks ≡ true)
none_or_any u [] = inl tt
none_or_any u (x ∷ ks) = elim (eqb_tells u x) [
  | inl p ↦ inr (rw p.0)
  | inr p ↦ elim (none_or_any u ks) [ inl h ↦ inl (p.0, h) | inr h ↦ inr (rw p.0 h) ]
]

-- u is the first of a list, or one of the rest
pub first_or_rest : (u v : ℕ) (ks : List ℕ) → list_any (eqb u) (v ∷ ks) ≡ true → (u ≡ v) ⊎ (list_any (eqb u) ks ≡ true)
first_or_rest u v ks h = elim (eqb_tells u v) [ inl p ↦ inl p.1 | inr p ↦ inr (rw p.0 at h) ]

pub any-nil : (u : ℕ) → list_any (eqb u) [] ≡ true → ⊥
any-nil u h = cc

pub IsDistinct-one : (u : ℕ) → IsDistinct eqb (u ∷ [])
unfolding IsDistinct
IsDistinct-one u = (tt, tt)

-- each of a list's is below n
all_below : (n : ℕ) (ks : List ℕ) → AllByRecursion (λ y. y < n) ks → (q : ℕ) → list_any (eqb q) ks ≡ true → q < n
all_below n [] h q e = cc
all_below n (x ∷ ks) h q e = elim (eqb_tells q x) [
  | inl p ↦ omega (arith, p.1, h.0)
  | inr p ↦ all_below n ks h.1 q (rw p.0 at e)
]

-- behind one number below n fewer than n stand that are apart from it and from one another
pub length-lt_from_distinct : (n u : ℕ) (ks : List ℕ) → u < n → AllByRecursion (λ y. y < n) ks → IsDistinct eqb (u ∷ ks) → length ks < n
length-lt_from_distinct n u ks lt below apart =
    let few : length (u ∷ ks) ≤ n = length-le_from_distinct_below (u ∷ ks) n apart (all_below n (u ∷ ks) (lt, below)) in
    omega arith
