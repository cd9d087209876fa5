-- The crate's own: of what a table of costs is made.
use Rattle.std.specs.Prelude.{ℕ, ◌*◌, ◌<◌, List, Option, length}
use Rattle.std.specs.List.{AllZip, Contains}
use Rattle.std.specs.Option.{ForSome}
use Rattle.road_base.specs.declared.segments.Place.{Place}
use Rattle.search_graph.specs.declared.costs.WeightDurLen.{WeightDurLen}
use Rattle.search_graph.specs.declared.ends.Start.{Start}
use Rattle.search_graph.specs.declared.ends.Target.{Target}
use Rattle.search_graph.specs.Digraph.{Weighting}
use Rattle.search_graph.specs.RoadCosts.{road_cost_ops}
use Rattle.table_query.specs.LeastCosts.{IsLeastAmong}
use Rattle.road_places.specs.Ends.{AreAll}
use Rattle.road_places.specs.Permitted.{IsAlongOne, IsByTurns, IsStart}
use Rattle.metric_make.specs.RoadMetric.{RoadMetric}
use Rattle.road_walks.specs.Least.{most_units}
use Rattle.road_walks.specs.Searched.{IsTargetIn}
use Rattle.road_walks.specs.Tables.{IsCellOf}

-- the starts are all where walks from p may start, each a vertex of the network, one of n vertices and at most of one unit
pub record AreStartsFrom (n : ℕ) (road : RoadMetric) (p : Place) (starts : List (Start WeightDurLen)) : Type 0 where
  pub all : AreAll (IsStart road.weights p) starts
  pub ordinary : (s : Start WeightDurLen) → Contains starts s → s.vertex < 2 * length road.network.segments
  pub fit : (s : Start WeightDurLen) → Contains starts s → (s.vertex < n) × road_cost_ops.units s.cost 1

-- the targets are all of the searched graph where walks to q may end, each one of n vertices and at most of one unit
pub record AreTargetsTo (n : ℕ) (road : RoadMetric) (q : Place) (targets : List (Target WeightDurLen)) : Type 0 where
  pub all : AreAll (IsTargetIn road q) targets
  pub fit : (t : Target WeightDurLen) → Contains targets t → (t.vertex < n) × road_cost_ops.units t.cost 1

-- some walk of one vertex from p to q costs d
abbrev pub CanCostAlong : Weighting WeightDurLen → Place → Place → WeightDurLen → Type 0
CanCostAlong w p q d = (walk : List ℕ) × IsAlongOne w p q walk d

-- some walk of two or more vertices from p to q costs d
abbrev pub CanCostByTurns : RoadMetric → Place → Place → WeightDurLen → Type 0
CanCostByTurns road p q d = (walk : List ℕ) × IsByTurns road p q walk d

-- it is within the units of least routes, where there is one
abbrev pub IsWithin : RoadMetric → Option WeightDurLen → Type 0
IsWithin road value = ForSome value (λ d. road_cost_ops.units d (most_units road.network))

-- the least that a walk of two or more vertices costs
abbrev pub IsCellByTurns : RoadMetric → Place → Place → Option WeightDurLen → Type 0
IsCellByTurns road p q value = IsLeastAmong road_cost_ops (CanCostByTurns road p q) value × IsWithin road value

-- from p to each of the destinations, in their order
abbrev pub IsRowByTurns : RoadMetric → List Place → Place → List (Option WeightDurLen) → Type 0
IsRowByTurns road destinations p row = AllZip (IsCellByTurns road p) destinations row

-- the least that any permitted walk costs
abbrev pub IsCellWithin : RoadMetric → Place → Place → Option WeightDurLen → Type 0
IsCellWithin road p q value = IsCellOf road p q value × IsWithin road value

-- from p to each of the destinations, in their order
abbrev pub IsRowWithin : RoadMetric → List Place → Place → List (Option WeightDurLen) → Type 0
IsRowWithin road destinations p row = AllZip (IsCellWithin road p) destinations row
