use Rattle.std.proofs.Common.{ℕ, ◌+◌, ◌*◌, inl, inr, List, subst}
use Rattle.road_base.specs.declared.segments.Place.{Place}
use Rattle.search_graph.specs.declared.costs.WeightDurLen.{WeightDurLen}
use Rattle.search_graph.specs.Digraph.{Weighting}
use Rattle.road_places.specs.Permitted.{IsAlong, IsAlongOne}
use Rattle.road_walks.specs.Choosing.{Either}
use Rattle.road_walks.proofs.LeastLemmas.{cheaper-within, least-cheaper, least-same}
use Rattle.road_walks.proofs.along_one.along_one.Goals as goal

module _ (w : Weighting WeightDurLen) (p q : Place) where
  some-vertex : (walk : List ℕ) (d : WeightDurLen) → Either (IsAlong w p q (2 * p.segment)) (IsAlong w p q (2 * p.segment + 1)) walk d → IsAlongOne w p q walk d
  some-vertex walk d h = elim h [ inl a ↦ (2 * p.segment, a) | inr a ↦ (2 * p.segment + 1, a) ]

  which-vertex : (walk : List ℕ) (d : WeightDurLen) → IsAlongOne w p q walk d → Either (IsAlong w p q (2 * p.segment)) (IsAlong w p q (2 * p.segment + 1)) walk d
  which-vertex walk d (v, a) = elim a.begins [
    | inl e ↦ inl (subst (λ x. IsAlong w p q x walk d) e a)
    | inr e ↦ inr (subst (λ x. IsAlong w p q x walk d) e a)
  ]

-- the lesser of the two directions is the least of both
pub returns-clause-least : goal.returns-clause-least
returns-clause-least c =
    least-same _ _ (some-vertex c.args.base.now.weights c.args.from c.args.to) (which-vertex c.args.base.now.weights c.args.from c.args.to) c.cheaper.result
    (least-cheaper _ _ c.in_ok-forward.forward c.in_ok-backward.backward c.cheaper.result c.cheaper.ensures c.in_ok-forward.ensures.least c.in_ok-backward.ensures.least)

-- and costs at most one unit
pub returns-clause-unit : goal.returns-clause-unit
returns-clause-unit c = cheaper-within 1 c.in_ok-forward.forward c.in_ok-backward.backward c.cheaper.result c.cheaper.ensures c.in_ok-forward.ensures.unit c.in_ok-backward.ensures.unit
