-- The least of all costs of two kinds is the lesser of the least of each.
use Rattle.std.specs.Prelude.{◌⊎◌, Option, Some, None}
use Rattle.std.proofs.Common.{inl, inr, subst, sym}
use Rattle.search_graph.specs.Costs.{CostOps, CostLaws, NoDearer}
use Rattle.search_graph.specs.OrderLaws.{le_trans}
use Rattle.table_query.specs.LeastCosts.{IsLeastAmong, IsLesserOf}

-- P holds of d, or Q does
abbrev pub EitherOf : {C : Type 0} → (C → Type 0) → (C → Type 0) → C → Type 0
EitherOf P Q d = P d ⊎ Q d

module _ {C : Type 0} {ops : CostOps C} (laws : CostLaws ops) (P Q : C → Type 0) where
  second : (b : Option C) → IsLeastAmong ops P None → IsLeastAmong ops Q b → IsLeastAmong ops (EitherOf P Q) b
  second None h k = λ d e. elim e [ inl p ↦ h d p | inr q ↦ k d q ]
  second (Some b) h k = (inr k.0, λ d e. elim e [ inl p ↦ absurd (h d p) | inr q ↦ k.1 d q ])

  first : (a : C) → IsLeastAmong ops P (Some a) → IsLeastAmong ops Q None → IsLeastAmong ops (EitherOf P Q) (Some a)
  first a h k = (inl h.0, λ d e. elim e [ inl p ↦ h.1 d p | inr q ↦ absurd (k d q) ])

  kept : (a b : C) → NoDearer ops a b → IsLeastAmong ops P (Some a) → IsLeastAmong ops Q (Some b) → IsLeastAmong ops (EitherOf P Q) (Some a)
  kept a b le h k = (inl h.0, λ d e. elim e [ inl p ↦ h.1 d p | inr q ↦ le_trans laws a b d le (k.1 d q) ])

  changed : (a b : C) → NoDearer ops b a → IsLeastAmong ops P (Some a) → IsLeastAmong ops Q (Some b) → IsLeastAmong ops (EitherOf P Q) (Some b)
  changed a b le h k = (inr k.0, λ d e. elim e [ inl p ↦ le_trans laws b a d le (h.1 d p) | inr q ↦ k.1 d q ])

  -- the lesser of the least of P and the least of Q is the least of both
  pub least-either : (a b r : Option C) → IsLesserOf ops a b r → IsLeastAmong ops P a → IsLeastAmong ops Q b → IsLeastAmong ops (EitherOf P Q) r
  least-either None b r e h k = subst (λ x. IsLeastAmong ops (EitherOf P Q) x) (sym e) (second b h k)
  least-either (Some a) None r e h k = subst (λ x. IsLeastAmong ops (EitherOf P Q) x) (sym e) (first a h k)
  least-either (Some a) (Some b) r e h k = elim e [
    | inl one ↦ subst (λ x. IsLeastAmong ops (EitherOf P Q) x) (sym one.0) (kept a b one.1 h k)
    | inr other ↦ subst (λ x. IsLeastAmong ops (EitherOf P Q) x) (sym other.0) (changed a b other.1 h k)
  ]

-- two ways to tell the same costs have the same least
pub least-same : {C : Type 0} (ops : CostOps C) (P Q : C → Type 0) → ((d : C) → P d → Q d) → ((d : C) → Q d → P d) → (value : Option C) → IsLeastAmong ops P value → IsLeastAmong ops Q value
least-same ops P Q to from None h = λ d q. h d (from d q)
least-same ops P Q to from (Some c) h = (to c h.0, λ d q. h.1 d (from d q))
