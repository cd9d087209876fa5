use Rattle.std.proofs.Common.{Option}
use Rattle.std.specs.Option.{ForSome}
use Rattle.std.proofs.lemmas.List.Elements.{All-push}
use Rattle.search_graph.specs.declared.costs.WeightDurLen.{WeightDurLen}
use Rattle.search_graph.specs.RoadCosts.{road_cost_ops}
use Rattle.small_graphs.proofs.weighing.vertex_costs.Goals as goal

pub loop-text-preserved : goal.loop-text-preserved
loop-text-preserved c = rw c.in_ok-push.ensures.pushed (All-push (λ (o : Option WeightDurLen). ForSome o (λ x. road_cost_ops.units x 1)) c.loop-text.costs c.in_ok-cost.cost c.loop-text.invariant c.in_ok-cost.ensures)
