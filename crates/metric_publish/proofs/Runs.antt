-- Lists whose numbers run up by one.
use Rattle.std.proofs.Common.{◌≡◌, ℕ, ◌+◌, List, [], ◌∷◌, ◌++◌, Some, refl, sym, ap, ◌∙◌, subst}
use Rattle.std.proofs.lemmas.Option.{same_Some}
use mathlib.Core.List.{IsPrefix}
use Rattle.metric_publish.specs.declared.entry.Entry.{Entry}
use Rattle.metric_publish.specs.History.{IsRun, IsNumbered, IsNext, MayFollow, last_from, last_of, last_number}

module _ {A : Type 0} where
  last_from-snoc : (x : A) (xs : List A) (y : A) → last_from x (xs ++ y ∷ []) ≡ y
  last_from-snoc x [] y = refl
  last_from-snoc x (z ∷ zs) y = last_from-snoc z zs y

  pub last_of-snoc : (xs : List A) (y : A) → last_of (xs ++ y ∷ []) ≡ Some y
  last_of-snoc [] y = refl
  last_of-snoc (x ∷ xs) y = ap Some (last_from-snoc x xs y)

module _ {V : Type 0} where
  front_numbered : (n : ℕ) (xs ys : List (Entry V)) → IsNumbered n (xs ++ ys) → IsNumbered n xs
  front_numbered n [] ys h = tt
  front_numbered n (x ∷ xs) ys h = (h.0, front_numbered (n + 1) xs ys h.1)

  -- a beginning of a run is one
  pub front_runs : (xs ys : List (Entry V)) → IsPrefix xs ys → IsRun ys → IsRun xs
  front_runs [] ys p h = tt
  front_runs (x ∷ xs) ys p h =
      let all : IsRun ((x ∷ xs) ++ p.0) = subst IsRun (sym p.1) h in front_numbered x.number (x ∷ xs) p.0 all

  more_numbered : (n : ℕ) (x : Entry V) (xs : List (Entry V)) (e : Entry V) → IsNumbered n (x ∷ xs) → e.number ≡ (last_from x xs).number + 1 → IsNumbered n ((x ∷ xs) ++ e ∷ [])
  more_numbered n x [] e h next = (h.0, (next ∙ ap (λ k. k + 1) h.0, tt))
  more_numbered n x (y ∷ ys) e h next = (h.0, more_numbered (n + 1) y ys e h.1 next)

  -- a run goes on with the next number
  pub follows : (log : List (Entry V)) (e : Entry V) → IsRun log → IsNext log e.number → MayFollow log e
  follows [] e h next = (refl, tt)
  follows (x ∷ xs) e h next = more_numbered x.number x xs e h next

  -- the last entry's number is the list's last number
  pub last_number_is : (log : List (Entry V)) (e : Entry V) → last_of log ≡ Some e → last_number log ≡ e.number
  last_number_is [] e h = absurd (cc h)
  last_number_is (x ∷ xs) e h = ap (λ (u : Entry V). u.number) (same_Some _ _ h)

  -- one more than the last number may come next
  pub next_of : (log : List (Entry V)) (number : ℕ) → number ≡ last_number log + 1 → IsNext log number
  next_of [] number h = tt
  next_of (x ∷ xs) number h = h
