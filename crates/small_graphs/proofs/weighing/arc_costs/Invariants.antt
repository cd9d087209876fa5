use Rattle.std.proofs.Common.{All}
use Rattle.search_graph.specs.RoadCosts.{road_cost_ops}
use Rattle.small_graphs.proofs.weighing.arc_costs.Given as goal

-- each cost so far is within one unit
abbrev pub invariant-loop-text : goal.invariant-loop-text
invariant-loop-text l = All (λ a. road_cost_ops.units a 1) l.costs
