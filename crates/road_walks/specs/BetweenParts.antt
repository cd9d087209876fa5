-- The crate's own: of what least routes from one state of a place to one of another are made.
use Rattle.std.specs.Prelude.{ℕ, ◌<◌, List, Option}
use Rattle.std.specs.List.{AllZip, Contains}
use Rattle.road_base.specs.declared.segments.Place.{Place}
use Rattle.search_graph.specs.declared.costs.WeightDurLen.{WeightDurLen}
use Rattle.search_graph.specs.declared.ends.Start.{Start}
use Rattle.search_graph.specs.declared.ends.Target.{Target}
use Rattle.search_graph.specs.RoadCosts.{road_cost_ops}
use Rattle.table_query.specs.LeastCosts.{IsLeastAmong}
use Rattle.metric_make.specs.RoadMetric.{RoadMetric}
use Rattle.road_places.specs.Ends.{AreAll}
use Rattle.road_walks.specs.Between.{IsAlongBetween, IsByTurnsBetween, IsStartAt, IsTargetAt, states_of}

-- a start of the same cost at another vertex
abbrev pub start_moved : ℕ → Start WeightDurLen → Start WeightDurLen
start_moved v s = record { vertex = v; cost = s.cost }

-- and a target
abbrev pub target_moved : ℕ → Target WeightDurLen → Target WeightDurLen
target_moved v t = record { vertex = v; cost = t.cost }

-- the starts are all where walks from p may start in state d, each one of n vertices and at most of one unit
pub record AreStartsAt (n : ℕ) (road : RoadMetric) (p : Place) (d : ℕ) (starts : List (Start WeightDurLen)) : Type 0 where
  pub all : AreAll (IsStartAt road p d) starts
  pub fit : (s : Start WeightDurLen) → Contains starts s → (s.vertex < n) × road_cost_ops.units s.cost 1

-- the targets are all where walks to q may end in state e, each one of n vertices and at most of one unit
pub record AreTargetsAt (n : ℕ) (road : RoadMetric) (q : Place) (e : ℕ) (targets : List (Target WeightDurLen)) : Type 0 where
  pub all : AreAll (IsTargetAt road q e) targets
  pub fit : (t : Target WeightDurLen) → Contains targets t → (t.vertex < n) × road_cost_ops.units t.cost 1

-- some walk of one vertex costs c
abbrev pub CanCostAlongBetween : RoadMetric → Place → Place → ℕ → ℕ → WeightDurLen → Type 0
CanCostAlongBetween road p q d e c = (walk : List ℕ) × IsAlongBetween road p q d e walk c

-- some walk of two or more costs c
abbrev pub CanCostByTurnsBetween : RoadMetric → Place → Place → ℕ → ℕ → WeightDurLen → Type 0
CanCostByTurnsBetween road p q d e c = (walk : List ℕ) × IsByTurnsBetween road p q d e walk c

-- the least that a walk of one vertex costs
abbrev pub IsCostAlong : RoadMetric → Place → Place → ℕ → ℕ → Option WeightDurLen → Type 0
IsCostAlong road p q d e value = IsLeastAmong road_cost_ops (CanCostAlongBetween road p q d e) value

-- the least that a walk of two or more vertices costs
abbrev pub IsCostByTurns : RoadMetric → Place → Place → ℕ → ℕ → Option WeightDurLen → Type 0
IsCostByTurns road p q d e value = IsLeastAmong road_cost_ops (CanCostByTurnsBetween road p q d e) value

-- from p in state d to each of q's states, in their order
abbrev pub IsRowFromState : RoadMetric → Place → Place → ℕ → List (Option WeightDurLen) → Type 0
IsRowFromState road p q d row = AllZip (IsCostByTurns road p q d) (states_of road.network q) row
