use Rattle.std.proofs.Common.{◌+◌, sym, subst, take, List, Option, get_or, arith}
use Rattle.std.specs.Prelude.{All, IfSome}
use Rattle.std.specs.List.{AllZip}
use Rattle.std.proofs.lemmas.List.{take_all}
use Rattle.std.proofs.lemmas.List.Elements.{All-push}
use Rattle.list_lemmas.proofs.Fronts.{all_zip-length, all_zip-more}
use Rattle.road_base.specs.declared.segments.Place.{Place}
use Rattle.road_places.specs.declared.walks.Route.{Route}
use Rattle.search_graph.specs.RoadCosts.{road_cost_ops}
use Rattle.road_walks.specs.FirstFailure.{first_failure}
use Rattle.road_walks.specs.Least.{most_units}
use Rattle.road_walks.specs.Legs.{HasNoWalk, HasWalk, IsLeastAlong, legs_of}
use Rattle.road_walks.proofs.LegLemmas.{are-along, are-least, least-along, leg-at, length-legs_of, no-walk}
use Rattle.road_walks.proofs.legs.least_routes.Goals as goal

-- the first without a walk
pub returns-in-None-clause-err : goal.returns-in-None-clause-err
returns-in-None-clause-err c =
    let road = c.args.under.now.road in
    let places = c.args.places.now in
    let k = c.loop-leg.leg in
    let nowhere : Place = record { segment = 0; at = 0 } in
    let leg : Place × Place = (get_or places k nowhere, get_or places (k + 1) nowhere) in
    let test = c.loop-leg-test.true in
    first_failure (IsLeastAlong road) (HasWalk road) (HasNoWalk road) (legs_of places) c.loop-leg.routes.items k leg (λ a route r. (route.walk, route.cost, r.permitted)) c.loop-leg.invariant.least
    (leg-at places k nowhere (omega (arith, test)))
    (no-walk road leg c.in_ok-route.field-0 c.in_ok-route.ensures.least c.in-None.is)

-- one route more
pub loop-leg-preserved : goal.loop-leg-preserved
loop-leg-preserved c =
    let road = c.args.under.now.road in
    let places = c.args.places.now in
    let k = c.loop-leg.leg in
    let nowhere : Place = record { segment = 0; at = 0 } in
    let leg : Place × Place = (get_or places k nowhere, get_or places (k + 1) nowhere) in
    let test = c.loop-leg-test.true in
    let within = λ (route : Route). road_cost_ops.units route.cost (most_units road.network) in
    record {
      least = subst (λ (routes : List Route). AllZip (IsLeastAlong road) (take (k + 1) (legs_of places)) routes) (sym c.in_ok-push-in-Some.ensures.items)
          (all_zip-more (IsLeastAlong road) (legs_of places) c.loop-leg.routes.items k leg c.in-Some.route c.loop-leg.invariant.least
          (leg-at places k nowhere (omega (arith, test)))
          (least-along road leg c.in_ok-route.field-0 c.in-Some.route c.in_ok-route.ensures.least c.in-Some.is));
      bound = subst (λ (routes : List Route). All within routes) (sym c.in_ok-push-in-Some.ensures.items)
          (All-push within c.loop-leg.routes.items c.in-Some.route c.loop-leg.invariant.bound
          (subst (λ (found : Option Route). IfSome found within) c.in-Some.is c.in_ok-route.ensures.bound));
    }

-- all legs
pub returns-clause-along : goal.returns-clause-along
returns-clause-along c =
    let road = c.args.under.now.road in
    let legs = legs_of c.args.places.now in
    let count = length-legs_of c.args.places.now in
    are-along road c.args.places.now c.loop-leg.routes.items
    (subst (λ (front : List (Place × Place)). AllZip (IsLeastAlong road) front c.loop-leg.routes.items) (take_all c.loop-leg.leg legs (omega (arith, count))) c.loop-leg.invariant.least)

pub returns-clause-least : goal.returns-clause-least
returns-clause-least c =
    let road = c.args.under.now.road in
    let legs = legs_of c.args.places.now in
    let count = length-legs_of c.args.places.now in
    are-least road c.args.places.now c.loop-leg.routes.items
    (subst (λ (front : List (Place × Place)). AllZip (IsLeastAlong road) front c.loop-leg.routes.items) (take_all c.loop-leg.leg legs (omega (arith, count))) c.loop-leg.invariant.least)

pub returns-clause-one_each : goal.returns-clause-one_each
returns-clause-one_each c =
    let road = c.args.under.now.road in
    let legs = legs_of c.args.places.now in
    let count = length-legs_of c.args.places.now in
    let some = c.requires.some in
    let all = all_zip-length (IsLeastAlong road) legs c.loop-leg.routes.items
    (subst (λ (front : List (Place × Place)). AllZip (IsLeastAlong road) front c.loop-leg.routes.items) (take_all c.loop-leg.leg legs (omega (arith, count))) c.loop-leg.invariant.least) in
    omega (arith, all, count, some)
