use Rattle.road_walks.specs.Between.{IsAlongBetween, IsByTurnsBetween}
use Rattle.road_walks.specs.Least.{most_units}
use Rattle.road_walks.proofs.BetweenLemmas.{route-between}
use Rattle.road_walks.proofs.LeastLemmas.{cheaper-within, least-cheaper, unit-within}
use Rattle.road_walks.proofs.state_routes.least_route_between.Goals as goal

pub returns-clause-least : goal.returns-clause-least
returns-clause-least c =
    let road = c.args.under.now.road in
    let p = c.args.from in
    let q = c.args.to in
    let d = c.args.ends.0 in
    let e = c.args.ends.1 in
    route-between road p q d e c.cheaper.result
    (least-cheaper (IsAlongBetween road p q d e) (IsByTurnsBetween road p q d e) c.in_ok-along.along c.in_ok-by_turns.by_turns c.cheaper.result c.cheaper.ensures
    c.in_ok-along.ensures.least c.in_ok-by_turns.ensures.least)

pub returns-clause-bound : goal.returns-clause-bound
returns-clause-bound c =
    let network = c.args.under.now.road.network in
    cheaper-within (most_units network) c.in_ok-along.along c.in_ok-by_turns.by_turns c.cheaper.result c.cheaper.ensures (unit-within network c.in_ok-along.along c.in_ok-along.ensures.unit) c.in_ok-by_turns.ensures.bound
