use Rattle.std.proofs.Common.{List, All, arith, ◌∙◌, subst}
use Rattle.way_profile.specs.Vehicle.{IsSpeed}
use Rattle.road_segments.specs.LimitLaws.{few_segments}
use Rattle.road_segments.specs.Located.{spot_in}
use Rattle.road_segments.specs.Segment.{Segment}
use Rattle.road_segments.proofs.RoadLemmas.{on-speeds, segments-spotted}
use Rattle.road_segments.proofs.roads.Roads.build.Goals as goal

-- no more streets than segments
pub of-requires-clause-few_streets : goal.of-requires-clause-few_streets
of-requires-clause-few_streets c = omega (arith, few_segments, c.in_ok-routes.ensures.some, c.in-Some.ensures.0, c.in-Some.ensures.1)

pub returns-clause-ok : goal.returns-clause-ok
returns-clause-ok c =
    let spot = spot_in c.in_ok-spots.spots in
    let same = c.in_ok-routes.ensures.makes ∙ segments-spotted spot c.args.objects.now c.args.profile.now c.in_ok-spots.ensures in
    c.in_ok-roads.ensures ∙ same

pub returns-clause-speeds : goal.returns-clause-speeds
returns-clause-speeds c =
    let spot = spot_in c.in_ok-spots.spots in
    let same = c.in_ok-routes.ensures.makes ∙ segments-spotted spot c.args.objects.now c.args.profile.now c.in_ok-spots.ensures in
    subst (λ (x : List Segment). All (λ s. IsSpeed s.street.speed) x) same
    (on-speeds spot c.args.objects.now c.in_ok-routes.routes.streets.items c.in_ok-routes.routes.places.items c.in_ok-routes.ensures.speeds)
