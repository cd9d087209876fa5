use Rattle.std.proofs.Common.{◌-◌, arith, ap, get_or, refl, ◌∙◌}
use Rattle.road_base.specs.declared.coordinates.Point.{Point}
use Rattle.route_steps.specs.Intersections.{intersection_between}
use Rattle.route_steps.proofs.IntersectionLemmas.{intersection_at-behind}
use Rattle.route_steps.proofs.StepLemmas.{point_in-read}
use Rattle.route_steps.proofs.intersections.intersection_at.Goals as goal

-- behind the first vertex it is that between two
pub returns-in_ok-intersection_between : goal.returns-in_ok-intersection_between
returns-in_ok-intersection_between c =
    let network = c.args.network.now in
    let walk = c.args.walk.now in
    let points = c.args.points.now in
    let place = c.args.place in
    let location = point_in-read points points place c.index-points-place.result refl (omega (arith, c.requires.place, c.requires.points)) c.index-points-place.is in
    c.in_ok-intersection_between.ensures
    ∙ ap (λ (p : Point). intersection_between network p (get_or walk (place - 1) 0) (get_or walk place 0)) location
    ∙ intersection_at-behind network walk points place c.if-place-eq0.false
