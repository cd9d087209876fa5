use Rattle.std.proofs.Common.{◌+◌, ◌∙◌, [], ap, arith, get_or, map}
use Rattle.std.proofs.lemmas.List.{take_all}
use Rattle.list_lemmas.proofs.Fronts.{all_zip-second}
use Rattle.road_places.specs.Paid.{IsTurnCosting, steps_of}
use Rattle.metric_make.specs.RoadMetric.{road_of}
use Rattle.route_steps.specs.Turnings.{turn_paid}
use Rattle.route_steps.specs.TurnLaws.{length-steps_of}
use Rattle.route_steps.proofs.ListLemmas.{map-more, steps_of-at}
use Rattle.route_steps.proofs.turnings.turns_paid.Goals as goal

-- there is a turn from each vertex to the next
pub turn_cost-requires-clause-turn : goal.turn_cost-requires-clause-turn
turn_cost-requires-clause-turn c =
    let road = road_of c.args.network.now c.args.base.now in
    let walk = c.args.walk.now in
    all_zip-second (IsTurnCosting road) (steps_of walk) c.requires.turns.0 c.loop-k.k (get_or walk c.loop-k.k 0, get_or walk (c.loop-k.k + 1) 0) c.requires.turns.1
    (steps_of-at walk c.loop-k.k (omega arith))

-- one turn more
pub loop-k-preserved : goal.loop-k-preserved
loop-k-preserved c =
    let road = road_of c.args.network.now c.args.base.now in
    let walk = c.args.walk.now in
    map-more (turn_paid road) (steps_of walk) c.loop-k.k (get_or walk c.loop-k.k 0, get_or walk (c.loop-k.k + 1) 0) [] c.loop-k.turns.items c.push.new.self.items c.turn_cost.result
    (steps_of-at walk c.loop-k.k (omega arith)) c.turn_cost.ensures c.loop-k.invariant c.in_ok-push.ensures.items

-- all of them
pub returns : goal.returns
returns c =
    let road = road_of c.args.network.now c.args.base.now in
    let walk = c.args.walk.now in
    c.loop-k.invariant ∙ ap (map (turn_paid road)) (take_all c.loop-k.k (steps_of walk) (omega (arith, length-steps_of walk c.requires.some)))
