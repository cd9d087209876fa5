-- What it costs to go on through lists of places.
use Rattle.std.proofs.Common.{◌≡◌, ℕ, List, [], ◌∷◌, Option, Some, None, Bool, true, false, refl, sym, subst, ap, ◌∙◌, slice_index_or, if◌then◌else◌, ◌==◌, inl, inr}
use Rattle.std.proofs.lemmas.Bool.{true≢false}
use Rattle.std.proofs.lemmas.Bool.Decides.{eqb_tells}
use Rattle.std.proofs.lemmas.Option.{same_Some}
use Rattle.search_graph.specs.Costs.{CostOps, CostLaws}
use Rattle.trip_query.specs.Trips.{leg, both}
use Rattle.trip_query.specs.Tails.{onward}

-- two numbers that the test calls equal are
pub same_number : (a b : ℕ) → (a == b) ≡ true → a ≡ b
same_number a b e = elim (eqb_tells a b) [
  | inl p ↦ p.1
  | inr p ↦ absurd (true≢false (sym e ∙ p.0))
]

pub if_some : {C : Type 0} (b : Bool) (x : Option C) (d : C) → (if b then x else None) ≡ Some d → (b ≡ true) × (x ≡ Some d)
if_some true x d e = (refl, e)
if_some false x d e = cc

module _ {C : Type 0} (ops : CostOps C) where
  pub both_some : (x y : Option C) (d : C) → both ops x y ≡ Some d → (a : C) × (b : C) × (x ≡ Some a) × (y ≡ Some b) × (d ≡ ops.plus a b)
  both_some None y d e = cc
  both_some (Some a) None d e = cc
  both_some (Some a) (Some b) d e = (a, b, refl, refl, sym (same_Some (ops.plus a b) d e))

  pub both_are : (x y : Option C) (a b : C) → x ≡ Some a → y ≡ Some b → both ops x y ≡ Some (ops.plus a b)
  both_are x y a b e f = ap (λ o. both ops o y) e ∙ ap (both ops (Some a)) f

-- each leg, and what is paid at each end, is valid
pub record AreValid {C : Type 0} (ops : CostOps C) (rows : List (List (Option C))) (ends : List (Option C)) : Type 0 where
  pub leg_valid : (i j : ℕ) (c : C) → leg rows i j ≡ Some c → ops.valid c
  pub end_valid : (k : ℕ) (c : C) → slice_index_or ends k None ≡ Some c → ops.valid c

module _ {C : Type 0} {ops : CostOps C} (laws : CostLaws ops) {rows : List (List (Option C))} {ends : List (Option C)} (valid : AreValid ops rows ends) where
  pub onward_valid : (k : ℕ) (rest : List ℕ) (c : C) → onward ops rows ends k rest ≡ Some c → ops.valid c
  onward_valid k [] c e = valid.end_valid k c e
  onward_valid k (j ∷ rest) c e =
      let p = both_some ops (leg rows k j) (onward ops rows ends j rest) c e in
      subst ops.valid (sym p.4) (laws.plus_valid p.0 p.1 (valid.leg_valid k j p.0 p.2) (onward_valid j rest p.1 p.3))
