-- Least routes from a place to another.
use Rattle.std.specs.Prelude.{ℕ, ◌+◌, ◌*◌, List, Option, Some, None}
use Rattle.road_base.specs.declared.segments.Place.{Place}
use Rattle.search_graph.specs.declared.costs.WeightDurLen.{WeightDurLen}
use Rattle.search_graph.specs.Costs.{NoDearer}
use Rattle.search_graph.specs.RoadCosts.{road_cost_ops}
use Rattle.road_places.specs.Permitted.{IsPermitted}
use Rattle.edge_graph.specs.NetworkView.{NetworkView, graph_of}
use Rattle.metric_make.specs.RoadMetric.{RoadMetric}
use Rattle.road_places.specs.declared.walks.Route.{Route}

-- `walk` is a permitted walk from p to q that costs d, and no permitted walk costs less
pub record IsLeastRoute (road : RoadMetric) (p q : Place) (walk : List ℕ) (d : WeightDurLen) : Type 0 where
  pub permitted : IsPermitted road p q walk d
  pub least : (other : List ℕ) (e : WeightDurLen) → IsPermitted road p q other e → NoDearer road_cost_ops d e

-- there is no permitted walk from p to q
abbrev pub HasNoRoute : RoadMetric → Place → Place → Type 0
HasNoRoute road p q = (walk : List ℕ) (d : WeightDurLen) → ¬ IsPermitted road p q walk d

-- a least route from p to q, or none exactly where no permitted walk leads there
abbrev pub IsRouteAnswer : RoadMetric → Place → Place → Option Route → Type 0
IsRouteAnswer road p q None = HasNoRoute road p q
IsRouteAnswer road p q (Some route) = IsLeastRoute road p q route.walk route.cost

-- in how many units each least route costs: two for each vertex of the graph that is searched, and one
abbrev pub most_units : NetworkView → ℕ
most_units network = 2 * (graph_of network).vertices + 1
