-- Least routes from one state of a place to one of another. A walk that goes on at a place as it came there is in a state:
-- a vertex of the searched graph that stands for a direction of the place's segment, the direction itself or a copy of it,
-- in which it is held what the walk has of forbidden sequences so far (this project's rule, for routes that go on as they
-- came; the states are those of a string-matching automaton, as `via_paths` has them).
use Rattle.std.specs.Prelude.{◌≡◌, ℕ, ◌+◌, ◌*◌, ◌⊎◌, List, [], ◌∷◌, ◌++◌, Option, Some, None, length, map, slice_index_or}
use Rattle.std.specs.List.{slice_get}
use Rattle.road_base.specs.declared.segments.Place.{Place}
use Rattle.search_graph.specs.declared.costs.WeightDurLen.{WeightDurLen}
use Rattle.search_graph.specs.declared.ends.Start.{Start}
use Rattle.search_graph.specs.declared.ends.Target.{Target}
use Rattle.search_graph.specs.Costs.{NoDearer}
use Rattle.search_graph.specs.RoadCosts.{road_cost_ops}
use Rattle.search_graph.specs.Walks.{IsBetween}
use Rattle.table_query.specs.LeastCosts.{IsLeastAmong}
use Rattle.edge_graph.specs.NetworkView.{NetworkView, copies_at, graph_of, stands}
use Rattle.metric_make.specs.RoadMetric.{RoadMetric}
use Rattle.road_places.specs.Permitted.{IsAlong, IsStart, IsTarget}
use Rattle.road_places.specs.declared.walks.Route.{Route}
use Rattle.via_paths.specs.Standing.{start_for, target_for}

-- the states of a place: its segment forward and backward, and then the copies of the one and of the other
abbrev pub states_of : NetworkView → Place → List ℕ
states_of network place = (2 * place.segment) ∷ (2 * place.segment + 1) ∷ (copies_at network (2 * place.segment) ++ copies_at network (2 * place.segment + 1))

-- a walk from p starts in state d, at the cost of the direction for which it stands
abbrev pub IsStartAt : RoadMetric → Place → ℕ → Start WeightDurLen → Type 0
IsStartAt road p d s = IsStart road.weights p (start_for (stands road.network) s) × (s.vertex ≡ d)

-- a walk to q ends in state e
abbrev pub IsTargetAt : RoadMetric → Place → ℕ → Target WeightDurLen → Type 0
IsTargetAt road q e t = IsTarget road.weights q (target_for (stands road.network) t) × (t.vertex ≡ e)

-- `walk` is the vertex alone for which d stands, and so the state stays
abbrev pub IsAlongBetween : RoadMetric → Place → Place → ℕ → ℕ → List ℕ → WeightDurLen → Type 0
IsAlongBetween road p q d e walk c = IsAlong road.weights p q (stands road.network d) walk c × (d ≡ e)

-- `walk` is two or more vertices, for which a run over the searched graph stands that leads from d to e and costs c
pub record IsByTurnsBetween (road : RoadMetric) (p q : Place) (d e : ℕ) (walk : List ℕ) (c : WeightDurLen) : Type 0 where
  pub first : Start WeightDurLen
  pub last : Target WeightDurLen
  pub begins : IsStartAt road p d first
  pub ends : IsTargetAt road q e last
  pub run : List ℕ
  pub runs : IsBetween road_cost_ops (graph_of road.network) road.weights (first ∷ []) last run c
  pub is_walk : walk ≡ map (stands road.network) run

-- `walk` leads from state d of p to state e of q, and costs c
abbrev pub IsPermittedBetween : RoadMetric → Place → Place → ℕ → ℕ → List ℕ → WeightDurLen → Type 0
IsPermittedBetween road p q d e walk c = IsAlongBetween road p q d e walk c ⊎ IsByTurnsBetween road p q d e walk c

-- some such walk costs c
abbrev pub CanCostBetween : RoadMetric → Place → Place → ℕ → ℕ → WeightDurLen → Type 0
CanCostBetween road p q d e c = (walk : List ℕ) × IsPermittedBetween road p q d e walk c

-- the least that such a walk costs, or none exactly where there is none
abbrev pub IsCostBetween : RoadMetric → Place → Place → ℕ → ℕ → Option WeightDurLen → Type 0
IsCostBetween road p q d e value = IsLeastAmong road_cost_ops (CanCostBetween road p q d e) value

-- the costs of a leg from each state of p to each of q: those from the first state first
pub record AreLegCosts (road : RoadMetric) (p q : Place) (costs : List (Option WeightDurLen)) : Type 0 where
  pub count : length costs ≡ length (states_of road.network p) * length (states_of road.network q)
  pub each : (x y d e : ℕ) → slice_get (states_of road.network p) x ≡ Some d → slice_get (states_of road.network q) y ≡ Some e
      → IsCostBetween road p q d e (slice_index_or costs (x * length (states_of road.network q) + y) None)

-- `walk` is such a walk, costs c, and no such walk costs less
pub record IsLeastBetween (road : RoadMetric) (p q : Place) (d e : ℕ) (walk : List ℕ) (c : WeightDurLen) : Type 0 where
  pub permitted : IsPermittedBetween road p q d e walk c
  pub least : (other : List ℕ) (x : WeightDurLen) → IsPermittedBetween road p q d e other x → NoDearer road_cost_ops c x

-- a least such route, or none exactly where there is no such walk
abbrev pub IsRouteBetween : RoadMetric → Place → Place → ℕ → ℕ → Option Route → Type 0
IsRouteBetween road p q d e None = (walk : List ℕ) (c : WeightDurLen) → ¬ IsPermittedBetween road p q d e walk c
IsRouteBetween road p q d e (Some route) = IsLeastBetween road p q d e route.walk route.cost
