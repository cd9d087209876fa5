use Rattle.std.proofs.Common.{◌-◌, ◌<◌, List, ap, arith, length, subst, sym, ◌∙◌}
use Rattle.std.specs.Prelude.{slice_index}
use Rattle.metric_make.specs.RoadMetric.{RoadMetric, road_of}
use Rattle.route_steps.specs.StepSums.{AddUp, IsLineCut}
use Rattle.route_steps.specs.Steps.{AreAhead, arrival_at, pieces}
use Rattle.route_steps.specs.declared.begins.Begin.{Begin}
use Rattle.route_steps.specs.StepLaws.{begins-ahead, steps_along-cost, steps_along-line}
use Rattle.route_steps.proofs.StepLemmas.{point_in-read, steps-made}
use Rattle.route_steps.specs.WalkLaws.{some-vertex, vertices_of-walk}
use Rattle.route_steps.proofs.walk_steps.steps.Goals as goal

-- each vertex is of the network
pub begins_along-requires-clause-in_range : goal.begins_along-requires-clause-in_range
begins_along-requires-clause-in_range c =
    let road : RoadMetric = road_of c.args.network.now c.args.base.now in
    let range = c.graph-turns.ensures.sound.in_range in
    let all = vertices_of-walk road c.args.from c.args.to c.requires.from c.requires.to c.args.walk.now c.requires.walk.0 range c.requires.walk.1 in
    λ k d h. (all k d h).0

pub push_steps-requires-clause-in_range : goal.push_steps-requires-clause-in_range
push_steps-requires-clause-in_range c =
    let road : RoadMetric = road_of c.args.network.now c.args.base.now in
    let range = c.graph-turns.ensures.sound.in_range in
    let all = vertices_of-walk road c.args.from c.args.to c.requires.from c.requires.to c.args.walk.now c.requires.walk.0 range c.requires.walk.1 in
    λ k d h. (all k d h).0

-- the pieces of the walk lead ahead
pub push_steps-requires-clause-ahead : goal.push_steps-requires-clause-ahead
push_steps-requires-clause-ahead c =
    let road : RoadMetric = road_of c.args.network.now c.args.base.now in
    let walk = c.args.walk.now in
    let some = some-vertex road c.args.from c.args.to walk c.requires.walk.0 c.requires.walk.1 in
    subst (λ (begins : List Begin). AreAhead (length walk) (pieces begins (length walk))) (sym (c.deref.ensures.value ∙ c.in_ok-begins.ensures)) (begins-ahead road.network walk some)

-- the steps of the pieces, and the arrival
pub returns-clause-steps : goal.returns-clause-steps
returns-clause-steps c =
    let road : RoadMetric = road_of c.args.network.now c.args.base.now in
    let walk = c.args.walk.now in
    let course = c.in_ok-course.course in
    let some = some-vertex road c.args.from c.args.to walk c.requires.walk.0 c.requires.walk.1 in
    let there : length walk < length course.points = omega (arith, c.in_ok-course.ensures.course.points_count) in
    let end = point_in-read course.points c.as_slice.result.now (length walk) c.index-as_slice-walk.result c.as_slice.ensures there c.index-as_slice-walk.is in
    steps-made road c.args.from c.args.to walk some course.points course.paid course.turns c.deref.result.now c.in_ok-arrival_at.field-0 c.in_ok-steps.steps.items c.push_steps.new.steps.items c.of.result
    c.in_ok-course.ensures.points c.in_ok-course.ensures.paid c.in_ok-course.ensures.turns (c.deref.ensures.value ∙ c.in_ok-begins.ensures)
    (c.in_ok-arrival_at.ensures ∙ ap (arrival_at road.network (slice_index walk (length walk - 1))) end)
    c.in_ok-steps.ensures.items c.in_ok-push_steps.ensures (c.of.ensures ∙ c.in_ok-push.ensures.items)

-- they cost what the walk costs
pub returns-clause-totals : goal.returns-clause-totals
returns-clause-totals c =
    let road : RoadMetric = road_of c.args.network.now c.args.base.now in
    let walk = c.args.walk.now in
    subst (AddUp road c.args.from c.args.to walk) (sym (returns-clause-steps c)) (steps_along-cost road c.args.from c.args.to walk c.graph-turns.ensures.sound.simple)

-- and their lines are its line, cut
pub returns-clause-line : goal.returns-clause-line
returns-clause-line c =
    let road : RoadMetric = road_of c.args.network.now c.args.base.now in
    let walk = c.args.walk.now in
    let range = c.graph-turns.ensures.sound.in_range in
    subst (IsLineCut road c.args.from c.args.to walk) (sym (returns-clause-steps c))
    (steps_along-line road c.args.from c.args.to walk c.requires.walk.0 c.requires.from c.requires.to range c.requires.walk.1)
