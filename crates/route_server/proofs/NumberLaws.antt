-- The numbers of publications run up, so a longer list ends in no lower one.
use Rattle.std.proofs.Common.{ℕ, ◌+◌, ◌≤◌, List, [], ◌∷◌, ◌++◌, sym, subst, arith}
use mathlib.Core.List.{IsPrefix}
use Rattle.metric_publish.specs.History.{IsNumbered, IsRun, last_from, last_number}
use Rattle.metric_publish.specs.declared.entry.Entry.{Entry}

module _ {V : Type 0} where
  first_le : (n : ℕ) (x : Entry V) (zs : List (Entry V)) → IsNumbered n (x ∷ zs) → x.number ≤ (last_from x zs).number
  first_le n x [] h = omega arith
  first_le n x (z ∷ zs) h = let rest = first_le (n + 1) z zs h.1 in omega (arith, h.0, h.1.0, rest)

  front_le : (n : ℕ) (x : Entry V) (xs zs : List (Entry V)) → IsNumbered n ((x ∷ xs) ++ zs) → (last_from x xs).number ≤ (last_from x (xs ++ zs)).number
  front_le n x [] zs h = first_le n x zs h
  front_le n x (y ∷ ys) zs h = front_le (n + 1) y ys zs h.1

  run_le : (xs zs : List (Entry V)) → IsRun (xs ++ zs) → last_number xs ≤ last_number (xs ++ zs)
  run_le [] zs h = omega arith
  run_le (x ∷ xs) zs h = front_le x.number x xs zs h

  pub last_number_le : (xs ys : List (Entry V)) → IsPrefix xs ys → IsRun ys → last_number xs ≤ last_number ys
  last_number_le xs ys p h = subst (λ (all : List (Entry V)). last_number xs ≤ last_number all) p.1 (run_le xs p.0 (subst (λ (all : List (Entry V)). IsRun all) (sym p.1) h))
