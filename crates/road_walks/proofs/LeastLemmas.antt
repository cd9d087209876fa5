-- How the least of walks comes from the least of parts of them.
use Rattle.std.proofs.lemmas.Cmp.{upto}
use Rattle.std.proofs.Common.{ℕ, arith, inl, inr, List, Option, Some, None, sym, subst}
use Rattle.search_graph.specs.declared.costs.WeightDurLen.{WeightDurLen}
use Rattle.search_graph.specs.Costs.{NoDearer}
use Rattle.search_graph.specs.RoadCosts.{road_cost_ops, road_cost_laws}
use Rattle.std.specs.Prelude.{IfSome}
use Rattle.edge_graph.specs.NetworkView.{NetworkView}
use Rattle.metric_make.specs.RoadMetric.{RoadMetric}
use Rattle.road_places.specs.declared.walks.Route.{Route}
use Rattle.road_walks.specs.Choosing.{IsLeastOf, IsCheaperOf, Either}
use Rattle.road_walks.specs.Least.{IsRouteAnswer, most_units}
use Rattle.road_base.specs.declared.segments.Place.{Place}
use Rattle.road_places.specs.Permitted.{IsAlongOne, IsByTurns}

-- a cost that is no dearer than another is no dearer than what that is no dearer than
no_dearer-trans : (a b c : WeightDurLen) → NoDearer road_cost_ops a b → NoDearer road_cost_ops b c → NoDearer road_cost_ops a c
no_dearer-trans a b c h k = upto road_cost_laws.total a b c h k

module _ (P Q : List ℕ → WeightDurLen → Type 0) where
  -- the least of all that P tells, where Q tells nothing
  least-first : (a : Option Route) → IsLeastOf P a → IsLeastOf Q None → IsLeastOf (Either P Q) a
  least-first None h k = λ walk d e. elim e [ inl p ↦ h walk d p | inr q ↦ k walk d q ]
  least-first (Some a) h k = (inl h.0, λ walk d e. elim e [ inl p ↦ h.1 walk d p | inr q ↦ absurd (k walk d q) ])

  least-second : (b : Option Route) → IsLeastOf P None → IsLeastOf Q b → IsLeastOf (Either P Q) b
  least-second None h k = λ walk d e. elim e [ inl p ↦ h walk d p | inr q ↦ k walk d q ]
  least-second (Some b) h k = (inr k.0, λ walk d e. elim e [ inl p ↦ absurd (h walk d p) | inr q ↦ k.1 walk d q ])

  least-kept : (a b : Route) → NoDearer road_cost_ops a.cost b.cost → IsLeastOf P (Some a) → IsLeastOf Q (Some b) → IsLeastOf (Either P Q) (Some a)
  least-kept a b le h k = (inl h.0, λ walk d e. elim e [ inl p ↦ h.1 walk d p | inr q ↦ no_dearer-trans a.cost b.cost d le (k.1 walk d q) ])

  least-changed : (a b : Route) → NoDearer road_cost_ops b.cost a.cost → IsLeastOf P (Some a) → IsLeastOf Q (Some b) → IsLeastOf (Either P Q) (Some b)
  least-changed a b le h k = (inr k.0, λ walk d e. elim e [ inl p ↦ no_dearer-trans b.cost a.cost d le (h.1 walk d p) | inr q ↦ k.1 walk d q ])

  -- the cheaper of the least of P and the least of Q is the least of both
  pub least-cheaper : (a b r : Option Route) → IsCheaperOf a b r → IsLeastOf P a → IsLeastOf Q b → IsLeastOf (Either P Q) r
  least-cheaper None b r e h k = subst (λ x. IsLeastOf (Either P Q) x) (sym e) (least-second b h k)
  least-cheaper (Some a) None r e h k = subst (λ x. IsLeastOf (Either P Q) x) (sym e) (least-first (Some a) h k)
  least-cheaper (Some a) (Some b) r e h k = elim e [
    | inl first ↦ subst (λ x. IsLeastOf (Either P Q) x) (sym first.0) (least-kept a b first.1 h k)
    | inr second ↦ subst (λ x. IsLeastOf (Either P Q) x) (sym second.0) (least-changed a b second.1 h k)
  ]

  -- two ways to tell the same walks have the same least
  pub least-same : ((walk : List ℕ) (d : WeightDurLen) → P walk d → Q walk d) → ((walk : List ℕ) (d : WeightDurLen) → Q walk d → P walk d) → (r : Option Route) → IsLeastOf P r → IsLeastOf Q r
  least-same to from None h = λ walk d q. h walk d (from walk d q)
  least-same to from (Some r) h = (to r.walk r.cost h.0, λ walk d q. h.1 walk d (from walk d q))

-- the least of the walks of one vertex and of those by turns is a least route
pub least-route : (road : RoadMetric) (p q : Place) (r : Option Route) → IsLeastOf (Either (IsAlongOne road.weights p q) (IsByTurns road p q)) r → IsRouteAnswer road p q r
least-route road p q None h = h
least-route road p q (Some r) h = record { permitted = h.0; least = h.1 }

-- the cheaper of two that cost at most so much costs at most so much
pub cheaper-within : (n : ℕ) (a b r : Option Route) → IsCheaperOf a b r → IfSome a (λ route. road_cost_ops.units route.cost n) → IfSome b (λ route. road_cost_ops.units route.cost n) → IfSome r (λ route. road_cost_ops.units route.cost n)
cheaper-within n None b r e h k = subst (λ (x : Option Route). IfSome x (λ route. road_cost_ops.units route.cost n)) (sym e) k
cheaper-within n (Some a) None r e h k = subst (λ (x : Option Route). IfSome x (λ route. road_cost_ops.units route.cost n)) (sym e) h
cheaper-within n (Some a) (Some b) r e h k = elim e [
  | inl first ↦ subst (λ (x : Option Route). IfSome x (λ route. road_cost_ops.units route.cost n)) (sym first.0) h
  | inr second ↦ subst (λ (x : Option Route). IfSome x (λ route. road_cost_ops.units route.cost n)) (sym second.0) k
]

-- what costs at most one unit costs at most the units of any network
pub unit-within : (network : NetworkView) (o : Option Route) → IfSome o (λ route. road_cost_ops.units route.cost 1) → IfSome o (λ route. road_cost_ops.units route.cost (most_units network))
unit-within network None h = tt
unit-within network (Some route) h = road_cost_laws.units_more route.cost 1 (most_units network) h (omega arith)
