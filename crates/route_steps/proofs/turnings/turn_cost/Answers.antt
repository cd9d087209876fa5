use Rattle.std.proofs.Common.{sym}
use Rattle.metric_make.specs.RoadMetric.{road_of}
use Rattle.route_steps.specs.TurnLaws.{turn_paid-costing}
use Rattle.route_steps.proofs.turnings.turn_cost.Goals as goal

-- it is the one turn
pub returns-in-Some : goal.returns-in-Some
returns-in-Some c =
    sym (turn_paid-costing (road_of c.args.network.now c.args.base.now) c.turn.ensures.simple (c.args.d, c.args.e) c.turn-in-Some.result (c.in-Some.turn, c.in-Some.ensures.value, c.turn-in-Some.ensures.value))
