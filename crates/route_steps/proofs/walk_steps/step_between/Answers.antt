use Rattle.std.proofs.Common.{List, ap, get_or, sym, ◌+◌, ◌∙◌}
use Rattle.std.specs.Prelude.{slice_range}
use Rattle.road_base.specs.declared.coordinates.Point.{Point}
use Rattle.route_steps.specs.Intersections.{intersections_between}
use Rattle.route_steps.specs.Steps.{begin_told, cost_between, points_between, step_between}
use Rattle.route_steps.specs.Turnings.{name_on}
use Rattle.route_steps.proofs.StepLemmas.{step-same}
use Rattle.route_steps.proofs.VertexLemmas.{name_on-told}
use Rattle.route_steps.proofs.walk_steps.step_between.Goals as goal

-- each part of the step
pub returns : goal.returns
unfolding step_between
returns c =
    let network = c.args.network.now in
    let walk = c.args.walk.now in
    let course = c.args.course.now in
    let begin = c.args.begin in
    let v = get_or walk begin.place 0 in
    let line = c.as_slice-line.ensures in
    step-same c.cost_between.result (cost_between course.paid course.turns begin.place c.args.end) c.of.result (points_between course.points begin.place c.args.end)
    c.in_ok-name.name (name_on network v) c.begin_told.result (begin_told network walk course.points begin)
    c.in_ok-intersections.intersections (intersections_between network walk course.points begin.place c.args.end)
    c.cost_between.ensures
    (c.of.ensures ∙ c.in_ok-points.ensures.items ∙ ap (λ (l : List Point). slice_range l begin.place (c.args.end + 1)) line)
    (c.in_ok-name.ensures ∙ sym (name_on-told network v c.name.result.now c.name.ensures.value))
    (c.begin_told.ensures ∙ ap (λ (l : List Point). begin_told network walk l begin) line)
    (c.in_ok-intersections.ensures ∙ ap (λ (l : List Point). intersections_between network walk l begin.place c.args.end) line)
