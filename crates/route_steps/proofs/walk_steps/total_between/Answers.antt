use Rattle.std.proofs.Common.{◌^◌, subst, sym}
use Rattle.search_graph.specs.declared.costs.WeightDurLen.{WeightDurLen}
use Rattle.search_graph.specs.RoadCosts.{road_cost_ops}
use Rattle.route_steps.proofs.SumLemmas.{total-part}
use Rattle.route_steps.proofs.walk_steps.total_between.Goals as goal

-- a part comes to no more than the whole
pub total-requires : goal.total-requires
total-requires c = total-part c.args.costs.now c.args.begin c.args.end (2 ^ 30) c.requires.small

pub returns-clause-bound : goal.returns-clause-bound
returns-clause-bound c =
    subst (λ (x : WeightDurLen). road_cost_ops.units x (2 ^ 30)) (sym c.total.ensures) (total-part c.args.costs.now c.args.begin c.args.end (2 ^ 30) c.requires.small)
