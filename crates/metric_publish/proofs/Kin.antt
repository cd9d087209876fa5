-- Lists whose values are akin to the first.
use Rattle.std.proofs.Common.{◌≡◌, List, [], ◌∷◌, ◌++◌, Some, sym, subst}
use Rattle.std.proofs.lemmas.Option.{same_Some}
use mathlib.Core.List.{IsPrefix}
use Rattle.metric_publish.specs.declared.entry.Entry.{Entry}
use Rattle.metric_publish.specs.History.{last_from, last_of, IsKin, AllKin, AreKin}

module _ {V : Type 0} (akin : V → V → Type 0) where
  more_kin : (x : V) (xs : List (Entry V)) (e : Entry V) → AllKin (akin x) xs → akin x e.value → AllKin (akin x) (xs ++ e ∷ [])
  more_kin x [] e h is = (is, tt)
  more_kin x (y ∷ ys) e h is = (h.0, more_kin x ys e h.1 is)

  -- the values stay akin with one more that is
  pub kin_follows : ((x : V) → akin x x) → (log : List (Entry V)) (e : Entry V) → AreKin akin log → IsKin akin log e.value → AreKin akin (log ++ e ∷ [])
  kin_follows itself [] e h is = (itself e.value, tt)
  kin_follows itself (x ∷ xs) e h is = more_kin x.value (x ∷ xs) e h is

  front_kin : (x : V) (xs ys : List (Entry V)) → AllKin (akin x) (xs ++ ys) → AllKin (akin x) xs
  front_kin x [] ys h = tt
  front_kin x (y ∷ xs) ys h = (h.0, front_kin x xs ys h.1)

  -- so are those of a beginning
  pub fronts_kin : (xs ys : List (Entry V)) → IsPrefix xs ys → AreKin akin ys → AreKin akin xs
  fronts_kin [] ys p h = tt
  fronts_kin (x ∷ xs) ys p h =
      let all : AreKin akin ((x ∷ xs) ++ p.0) = subst (AreKin akin) (sym p.1) h in front_kin x.value (x ∷ xs) p.0 all

  last_from_kin : (x : V) (y : Entry V) (ys : List (Entry V)) → AllKin (akin x) (y ∷ ys) → akin x (last_from y ys).value
  last_from_kin x y [] h = h.0
  last_from_kin x y (z ∷ zs) h = last_from_kin x z zs h.1

  -- the last value is akin to the first
  pub last_kin : (xs : List (Entry V)) (e : Entry V) → last_of xs ≡ Some e → AreKin akin xs → IsKin akin xs e.value
  last_kin [] e h k = tt
  last_kin (x ∷ xs) e h k = subst (λ (u : Entry V). akin x.value u.value) (same_Some _ _ h) (last_from_kin x.value x xs k)

  -- what may stand in a list is akin to its last value
  pub last_akin : ((x y z : V) → akin x y → akin x z → akin y z) → (xs : List (Entry V)) (e : Entry V) → last_of xs ≡ Some e → AreKin akin xs → (x : V) → IsKin akin xs x → akin e.value x
  last_akin together [] e some k x is = absurd (cc some)
  last_akin together (y ∷ xs) e some k x is = together y.value e.value x (last_kin (y ∷ xs) e some k) is

  -- what is akin to a list is so to its beginnings
  pub kin_before : (xs ys : List (Entry V)) → IsPrefix xs ys → (x : V) → IsKin akin ys x → IsKin akin xs x
  kin_before [] ys p x h = tt
  kin_before (y ∷ xs) ys p x h =
      let all : IsKin akin ((y ∷ xs) ++ p.0) x = subst (λ (l : List (Entry V)). IsKin akin l x) (sym p.1) h in all

  -- what is akin to a list with an entry is so to what it begins
  pub kin_after : (xs ys : List (Entry V)) (e : Entry V) → last_of xs ≡ Some e → IsPrefix xs ys → (x : V) → IsKin akin xs x → IsKin akin ys x
  kin_after [] ys e some p x h = absurd (cc some)
  kin_after (y ∷ xs) ys e some p x h = subst (λ (l : List (Entry V)). IsKin akin l x) p.1 h

  -- what a read gave is akin to what was seen before
  pub held_kin : (xs ys : List (Entry V)) (e : Entry V) → IsPrefix xs ys → last_of ys ≡ Some e → AreKin akin ys → IsKin akin xs e.value
  held_kin xs ys e p last k = kin_before xs ys p e.value (last_kin ys e last k)
