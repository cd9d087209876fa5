-- What walks between places of two lists cost.
use Rattle.std.specs.Prelude.{ℕ, List, Option, All}
use Rattle.std.specs.List.{AllZip}
use Rattle.std.specs.Option.{ForSome}
use Rattle.road_base.specs.declared.segments.Place.{Place}
use Rattle.search_graph.specs.declared.costs.WeightDurLen.{WeightDurLen}
use Rattle.search_graph.specs.RoadCosts.{road_cost_ops}
use Rattle.table_query.specs.LeastCosts.{IsLeastAmong}
use Rattle.road_places.specs.Permitted.{IsPermitted}
use Rattle.metric_make.specs.RoadMetric.{RoadMetric}

-- some permitted walk from p to q costs d
abbrev pub CanCost : RoadMetric → Place → Place → WeightDurLen → Type 0
CanCost road p q d = (walk : List ℕ) × IsPermitted road p q walk d

-- the least that a permitted walk from p to q costs, or none exactly where no permitted walk leads there
abbrev pub IsCellOf : RoadMetric → Place → Place → Option WeightDurLen → Type 0
IsCellOf road p q value = IsLeastAmong road_cost_ops (CanCost road p q) value

-- from p a cell to each of the destinations, in their order
abbrev pub IsRowOf : RoadMetric → List Place → Place → List (Option WeightDurLen) → Type 0
IsRowOf road destinations p row = AllZip (IsCellOf road p) destinations row

-- a row from each of the sources, in their order
abbrev pub AreRowsOf : RoadMetric → List Place → List Place → List (List (Option WeightDurLen)) → Type 0
AreRowsOf road sources destinations rows = AllZip (IsRowOf road destinations) sources rows

-- each cost is within n units
abbrev pub AreWithin : ℕ → List (List (Option WeightDurLen)) → Type 0
AreWithin n rows = All (All (λ value. ForSome value (λ d. road_cost_ops.units d n))) rows
