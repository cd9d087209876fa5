use Rattle.std.proofs.Common.{◌≡◌, ◌++◌, [], All, drop, map}
use Rattle.metric_make.specs.MetricOf.{turn_cost}
use Rattle.search_graph.specs.RoadCosts.{road_cost_ops}
use Rattle.metric_make.proofs.turns.turn_costs.Given as goal

-- the turns so far have their costs
abbrev pub invariant-loop-i : goal.invariant-loop-i
invariant-loop-i l = record {
  rest : l.costs ++ map (turn_cost l.network []) (drop l.i l.network.turns) ≡ map (turn_cost l.network []) l.network.turns;
  unit : All (λ a. road_cost_ops.units a 1) l.costs;
}
