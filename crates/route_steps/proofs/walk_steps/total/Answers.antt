use Rattle.std.proofs.Common.{get_or, ◌∙◌}
use Rattle.std.proofs.lemmas.Option.{slice_get-get_or}
use Rattle.search_graph.specs.RoadCosts.{road_cost_ops}
use Rattle.route_steps.proofs.SumLemmas.{front-next, next-units}
use Rattle.route_steps.proofs.walk_steps.total.Goals as goal

-- the sum so far and one cost more are a part of the whole
pub plus-sum-requires : goal.plus-sum-requires
plus-sum-requires c =
    let costs = c.args.costs.now in
    let k = c.loop-cost.cost-index in
    next-units costs k (get_or costs k road_cost_ops.zero) c.loop-cost.sum (slice_get-get_or costs k road_cost_ops.zero c.loop-cost-test.true) c.loop-cost.invariant c.requires

-- one cost more
pub loop-cost-preserved : goal.loop-cost-preserved
loop-cost-preserved c =
    let costs = c.args.costs.now in
    let k = c.loop-cost.cost-index in
    c.plus-sum.ensures ∙ front-next costs k (get_or costs k road_cost_ops.zero) c.loop-cost.sum (slice_get-get_or costs k road_cost_ops.zero c.loop-cost-test.true) c.loop-cost.invariant
