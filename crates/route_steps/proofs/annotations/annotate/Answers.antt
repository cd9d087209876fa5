use Rattle.std.proofs.Common.{List, subst, sym}
use Rattle.search_graph.specs.declared.costs.WeightDurLen.{WeightDurLen}
use Rattle.road_places.specs.Paid.{AddUpTo}
use Rattle.road_places.specs.PaidLaws.{permitted_adds_up}
use Rattle.metric_make.specs.RoadMetric.{RoadMetric, road_of}
use Rattle.route_steps.specs.WalkLaws.{vertices_of-walk}
use Rattle.route_steps.proofs.annotations.annotate.Goals as goal

-- each vertex has a cost or is closed
pub paid_along-requires-clause-in_range : goal.paid_along-requires-clause-in_range
paid_along-requires-clause-in_range c =
    let road : RoadMetric = road_of c.args.network.now c.args.base.now in
    let range = c.graph-turns.ensures.sound.in_range in
    let all = vertices_of-walk road c.args.from c.args.to c.requires.from c.requires.to c.args.walk.now c.requires.walk.0 range c.requires.walk.1 in
    λ k d h. (all k d h).1

-- and is of the network
pub nodes_along-requires-clause-in_range : goal.nodes_along-requires-clause-in_range
nodes_along-requires-clause-in_range c =
    let road : RoadMetric = road_of c.args.network.now c.args.base.now in
    let range = c.graph-turns.ensures.sound.in_range in
    let all = vertices_of-walk road c.args.from c.args.to c.requires.from c.requires.to c.args.walk.now c.requires.walk.0 range c.requires.walk.1 in
    λ k d h. (all k d h).0

-- the entries and the turns come to what the walk costs
pub returns-clause-sums : goal.returns-clause-sums
returns-clause-sums c = λ d h.
    let road : RoadMetric = road_of c.args.network.now c.args.base.now in
    subst (λ (paid : List WeightDurLen). AddUpTo road c.args.walk.now paid d) (sym c.in_ok-paid.ensures) (permitted_adds_up road c.args.from c.args.to c.args.walk.now d h)
