-- The crate's own: ends of walks over the graph that is searched, and the walks on roads that are looked for there.
use Rattle.std.specs.Prelude.{ℕ, ◌<◌, List, [], ◌∷◌, ◌++◌, map}
use Rattle.road_base.specs.declared.segments.Place.{Place}
use Rattle.search_graph.specs.declared.costs.WeightDurLen.{WeightDurLen}
use Rattle.search_graph.specs.declared.ends.Start.{Start}
use Rattle.search_graph.specs.declared.ends.Target.{Target}
use Rattle.search_graph.specs.RoadCosts.{road_cost_ops}
use Rattle.search_graph.specs.Walks.{IsBetween}
use Rattle.edge_graph.specs.NetworkView.{NetworkView, copies_at, graph_of, stands, turn_graph}
use Rattle.metric_make.specs.RoadMetric.{RoadMetric}
use Rattle.road_places.specs.Permitted.{IsTarget}
use Rattle.via_paths.specs.Forbidden.{IsFree}
use Rattle.via_paths.specs.Standing.{target_for}

-- t is at a vertex of the searched graph, and stands for a target of which P holds
pub record StandsForTarget (network : NetworkView) (P : Target WeightDurLen → Type 0) (t : Target WeightDurLen) : Type 0 where
  pub within : t.vertex < (graph_of network).vertices
  pub is : P (target_for (stands network) t)

-- a walk over the searched graph that ends at t stands for one that ends at q
abbrev pub IsTargetIn : RoadMetric → Place → Target WeightDurLen → Type 0
IsTargetIn road q t = StandsForTarget road.network (IsTarget road.weights q) t

-- a target at each copy of a target's vertex, at the cost of that
abbrev pub targets_at_copies : NetworkView → Target WeightDurLen → List (Target WeightDurLen)
targets_at_copies network t = map (λ q. record { vertex = q; cost = t.cost }) (copies_at network t.vertex)

-- those of all targets of a list
abbrev pub all_at_copies : NetworkView → List (Target WeightDurLen) → List (Target WeightDurLen)
all_at_copies network [] = []
all_at_copies network (t ∷ targets) = targets_at_copies network t ++ all_at_copies network targets

-- `walk` leads by turns from one of the starts to a target of which P holds, no forbidden sequence runs along it, and it costs d
pub record IsFreeTo (road : RoadMetric) (starts : List (Start WeightDurLen)) (P : Target WeightDurLen → Type 0) (walk : List ℕ) (d : WeightDurLen) : Type 0 where
  pub last : Target WeightDurLen
  pub ends : P last
  pub runs : IsBetween road_cost_ops (turn_graph road.network) road.weights starts last walk d
  pub free : IsFree road.network.forbidden walk

-- some such walk costs d
abbrev pub CanCostFreely : RoadMetric → List (Start WeightDurLen) → (Target WeightDurLen → Type 0) → WeightDurLen → Type 0
CanCostFreely road starts P d = (walk : List ℕ) × IsFreeTo road starts P walk d
