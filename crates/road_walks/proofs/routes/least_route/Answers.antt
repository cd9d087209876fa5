use Rattle.std.proofs.Common.{arith, subst, ap}
use Rattle.std.specs.Prelude.{length}
use Rattle.search_graph.specs.declared.costs.WeightDurLen.{WeightDurLen}
use Rattle.search_graph.specs.Digraph.{Weighting}
use Rattle.edge_graph.specs.GraphLaws.{segments-in-graph}
use Rattle.road_places.specs.Permitted.{IsAlongOne, IsByTurns}
use Rattle.road_walks.specs.Choosing.{IsLeastOf}
use Rattle.road_walks.specs.Least.{most_units}
use Rattle.road_walks.proofs.LeastLemmas.{cheaper-within, least-cheaper, least-route, unit-within}
use Rattle.road_walks.proofs.routes.least_route.Goals as goal

-- a place on a segment has both its vertices among those of the network
pub along_one-requires-clause-few : goal.along_one-requires-clause-few
along_one-requires-clause-few c = omega (arith, c.requires.from.on_segment, segments-in-graph c.args.under.now.road.network, c.base.ensures.small.vertices, c.base.ensures.small.few)

pub along_one-requires-clause-in_range : goal.along_one-requires-clause-in_range
along_one-requires-clause-in_range c =
    let same = ap (λ (w : Weighting WeightDurLen). length w.vertex) c.base.ensures.value in
    omega (arith, same, c.requires.from.on_segment, segments-in-graph c.args.under.now.road.network, c.base.ensures.small.vertices)

pub returns-clause-least : goal.returns-clause-least
returns-clause-least c =
    let road = c.args.under.now.road in
    let p = c.args.from in
    let q = c.args.to in
    least-route road p q c.cheaper.result
    (least-cheaper (IsAlongOne road.weights p q) (IsByTurns road p q) c.in_ok-along.along c.in_ok-by_turns.by_turns c.cheaper.result c.cheaper.ensures
    (subst (λ (w : Weighting WeightDurLen). IsLeastOf (IsAlongOne w p q) c.in_ok-along.along) c.base.ensures.value c.in_ok-along.ensures.least)
    c.in_ok-by_turns.ensures.least)

pub returns-clause-bound : goal.returns-clause-bound
returns-clause-bound c =
    let network = c.args.under.now.road.network in
    cheaper-within (most_units network) c.in_ok-along.along c.in_ok-by_turns.by_turns c.cheaper.result c.cheaper.ensures (unit-within network c.in_ok-along.along c.in_ok-along.ensures.unit) c.in_ok-by_turns.ensures.bound
