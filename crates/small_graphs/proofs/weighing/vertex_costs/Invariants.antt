use Rattle.std.proofs.Common.{All}
use Rattle.std.specs.Option.{ForSome}
use Rattle.search_graph.specs.RoadCosts.{road_cost_ops}
use Rattle.small_graphs.proofs.weighing.vertex_costs.Given as goal

-- each cost so far is within one unit
abbrev pub invariant-loop-text : goal.invariant-loop-text
invariant-loop-text l = All (λ o. ForSome o (λ x. road_cost_ops.units x 1)) l.costs
