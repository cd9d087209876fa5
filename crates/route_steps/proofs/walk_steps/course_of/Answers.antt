use Rattle.std.proofs.Common.{length, ◌∙◌}
use Rattle.road_places.specs.PaidLaws.{permitted_adds_up}
use Rattle.metric_make.specs.RoadMetric.{RoadMetric, road_of}
use Rattle.route_steps.specs.Points.{points_along}
use Rattle.road_places.specs.Paid.{paid_along}
use Rattle.route_steps.specs.Turnings.{turns_paid}
use Rattle.route_steps.specs.StepLaws.{length-line}
use Rattle.route_steps.proofs.StepLemmas.{course-along, course-same}
use Rattle.route_steps.specs.WalkLaws.{some-vertex, vertices_of-walk}
use Rattle.route_steps.proofs.walk_steps.course_of.Goals as goal

-- each vertex has a cost or is closed
pub paid_along-requires-clause-in_range : goal.paid_along-requires-clause-in_range
paid_along-requires-clause-in_range c =
    let road : RoadMetric = road_of c.args.network.now c.args.base.now in
    let range = c.graph-turns.ensures.sound.in_range in
    let all = vertices_of-walk road c.args.from c.args.to c.requires.from c.requires.to c.args.walk.now c.requires.walk.0 range c.requires.walk.1 in
    λ k d h. (all k d h).1

-- and is of the network
pub turns_paid-requires-clause-in_range : goal.turns_paid-requires-clause-in_range
turns_paid-requires-clause-in_range c =
    let road : RoadMetric = road_of c.args.network.now c.args.base.now in
    let range = c.graph-turns.ensures.sound.in_range in
    let all = vertices_of-walk road c.args.from c.args.to c.requires.from c.requires.to c.args.walk.now c.requires.walk.0 range c.requires.walk.1 in
    λ k d h. (all k d h).0

-- a turn leads from each to the next
pub turns_paid-requires-clause-turns : goal.turns_paid-requires-clause-turns
turns_paid-requires-clause-turns c =
    let road : RoadMetric = road_of c.args.network.now c.args.base.now in
    let sum = permitted_adds_up road c.args.from c.args.to c.args.walk.now c.requires.walk.0 c.requires.walk.1 in
    (sum.turns, sum.are_turns)

-- all of it together is what the walk costs
pub returns-clause-course : goal.returns-clause-course
returns-clause-course c =
    let road : RoadMetric = road_of c.args.network.now c.args.base.now in
    let walk = c.args.walk.now in
    let p = c.args.from in
    let q = c.args.to in
    let d = c.requires.walk.0 in
    let range = c.graph-turns.ensures.sound.in_range in
    let some = some-vertex road p q walk d c.requires.walk.1 in
    course-same (length walk) c.in_ok-points.points (points_along road.network.segments p q walk) c.in_ok-paid.paid (paid_along road.weights p q walk) c.of.result (turns_paid road walk)
    c.in_ok-points.ensures c.in_ok-paid.ensures (c.of.ensures ∙ c.in_ok-turns.ensures)
    (course-along road p q walk some d c.graph-turns.ensures.sound.simple (length-line road p q walk d c.requires.from c.requires.to range c.requires.walk.1) c.requires.walk.1 c.requires.walk.2)
