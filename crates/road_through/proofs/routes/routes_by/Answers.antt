-- Each turn has one route more, and none lacks one.
use Rattle.std.proofs.Common.{ℕ, ◌+◌, ◌<◌, ◌≤◌, List, Option, Some, get_or, length, sym, subst, arith}
use Rattle.std.specs.Prelude.{All, IfSome, ◌≡◌}
use Rattle.std.specs.List.{AllZip, slice_get}
use Rattle.std.proofs.lemmas.List.{take_all}
use Rattle.std.proofs.lemmas.List.Elements.{All-push}
use Rattle.std.proofs.lemmas.Option.{slice_get-get_or, slice_get_within}
use Rattle.list_lemmas.proofs.Gets.{Contains_get}
use Rattle.road_base.specs.declared.segments.Place.{Place}
use Rattle.edge_graph.specs.NetworkView.{NetworkView}
use Rattle.road_places.specs.Places.{ArePlacesOn, IsPlaceOn}
use Rattle.road_places.specs.declared.walks.Route.{Route}
use Rattle.search_graph.specs.RoadCosts.{road_cost_ops}
use Rattle.road_walks.specs.Between.{states_of}
use Rattle.road_walks.specs.Least.{most_units}
use Rattle.road_through.specs.States.{IsLeastBy, legs_by}
use Rattle.road_through.proofs.LegLemmas.{beside-more, by-at, by-count, found-by, found-some, leg_by, route-at}
use Rattle.road_through.proofs.routes.routes_by.Goals as goal

-- the places lie on segments
module _ (network : NetworkView) (places : List Place) (placed : ArePlacesOn network places) where
  placed-at : (k : ℕ) → k < length places → IsPlaceOn network (get_or places k (record { segment = 0; at = 0 }))
  placed-at k lt = let nowhere : Place = record { segment = 0; at = 0 } in placed k (get_or places k nowhere) (slice_get-get_or places k nowhere lt)

pub state_at-requires-clause-placed : goal.state_at-requires-clause-placed
state_at-requires-clause-placed c =
    let network = c.args.under.now.road.network in
    let test = c.loop-leg-test.true in
    let on = placed-at network c.args.places.now c.requires.placed c.loop-leg.leg (omega (arith, test)) in
    subst (λ (n : NetworkView). IsPlaceOn n (leg_by c.args.places.now c.args.states.now c.loop-leg.leg).0.0) (sym c.network-network.ensures) on

pub state_at-requires-in-loop-leg-clause-placed : goal.state_at-requires-in-loop-leg-clause-placed
state_at-requires-in-loop-leg-clause-placed c =
    let network = c.args.under.now.road.network in
    let test = c.loop-leg-test.true in
    let on = placed-at network c.args.places.now c.requires.placed (c.loop-leg.leg + 1) (omega (arith, test)) in
    subst (λ (n : NetworkView). IsPlaceOn n (leg_by c.args.places.now c.args.states.now c.loop-leg.leg).0.1) (sym c.network-network.ensures) on

pub least_route_between-requires-clause-from : goal.least_route_between-requires-clause-from
least_route_between-requires-clause-from c =
    let test = c.loop-leg-test.true in
    placed-at c.args.under.now.road.network c.args.places.now c.requires.placed c.loop-leg.leg (omega (arith, test))

pub least_route_between-requires-clause-to : goal.least_route_between-requires-clause-to
least_route_between-requires-clause-to c =
    let test = c.loop-leg-test.true in
    placed-at c.args.under.now.road.network c.args.places.now c.requires.placed (c.loop-leg.leg + 1) (omega (arith, test))

-- where there are routes by the states, each of them is one of its place
pub state_at-requires-clause-inside : goal.state_at-requires-clause-inside
state_at-requires-clause-inside c =
    let test = c.loop-leg-test.true in
    let road = c.args.under.now.road in
    let leg = leg_by c.args.places.now c.args.states.now c.loop-leg.leg in
    let there = (route-at road c.args.places.now c.args.states.now c.loop-leg.leg c.requires.one_each (omega (arith, test)) c.requires.reach).1 in
    subst (λ (n : NetworkView). leg.1.0 < length (states_of n leg.0.0)) (sym c.network-network.ensures) (slice_get_within (states_of road.network leg.0.0) leg.1.0 there.start there.first)

pub state_at-requires-in-loop-leg-clause-inside : goal.state_at-requires-in-loop-leg-clause-inside
state_at-requires-in-loop-leg-clause-inside c =
    let test = c.loop-leg-test.true in
    let road = c.args.under.now.road in
    let leg = leg_by c.args.places.now c.args.states.now c.loop-leg.leg in
    let there = (route-at road c.args.places.now c.args.states.now c.loop-leg.leg c.requires.one_each (omega (arith, test)) c.requires.reach).1 in
    subst (λ (n : NetworkView). leg.1.1 < length (states_of n leg.0.1)) (sym c.network-network.ensures) (slice_get_within (states_of road.network leg.0.1) leg.1.1 there.end there.last)

-- what was read is a state
pub least_route_between-requires-clause-first : goal.least_route_between-requires-clause-first
least_route_between-requires-clause-first c =
    let leg = leg_by c.args.places.now c.args.states.now c.loop-leg.leg in
    let network = c.args.under.now.road.network in
    Contains_get (states_of network leg.0.0) leg.1.0 c.in_ok-first.first (subst (λ (n : NetworkView). slice_get (states_of n leg.0.0) leg.1.0 ≡ Some c.in_ok-first.first) c.network-network.ensures c.in_ok-first.ensures)

pub least_route_between-requires-clause-last : goal.least_route_between-requires-clause-last
least_route_between-requires-clause-last c =
    let leg = leg_by c.args.places.now c.args.states.now c.loop-leg.leg in
    let network = c.args.under.now.road.network in
    Contains_get (states_of network leg.0.1) leg.1.1 c.in_ok-last.last (subst (λ (n : NetworkView). slice_get (states_of n leg.0.1) leg.1.1 ≡ Some c.in_ok-last.last) c.network-network.ensures c.in_ok-last.ensures)

pub unreachable-requires : goal.unreachable-requires
unreachable-requires c =
    let test = c.loop-leg-test.true in
    let road = c.args.under.now.road in
    let leg = leg_by c.args.places.now c.args.states.now c.loop-leg.leg in
    let there = route-at road c.args.places.now c.args.states.now c.loop-leg.leg c.requires.one_each (omega (arith, test)) c.requires.reach in
    let first = subst (λ (n : NetworkView). slice_get (states_of n leg.0.0) leg.1.0 ≡ Some c.in_ok-first.first) c.network-network.ensures c.in_ok-first.ensures in
    let last = subst (λ (n : NetworkView). slice_get (states_of n leg.0.1) leg.1.1 ≡ Some c.in_ok-last.last) c.network-network.ensures c.in_ok-last.ensures in
    found-some road leg c.in_ok-first.first c.in_ok-last.last first last c.in_ok-found.found c.in-None.is c.in_ok-found.ensures.least there.0 there.1

pub loop-leg-preserved : goal.loop-leg-preserved
loop-leg-preserved c =
    let test = c.loop-leg-test.true in
    let road = c.args.under.now.road in
    let places = c.args.places.now in
    let states = c.args.states.now in
    let k = c.loop-leg.leg in
    let leg = leg_by places states k in
    let route = c.in-Some.route in
    let first = subst (λ (n : NetworkView). slice_get (states_of n leg.0.0) leg.1.0 ≡ Some c.in_ok-first.first) c.network-network.ensures c.in_ok-first.ensures in
    let last = subst (λ (n : NetworkView). slice_get (states_of n leg.0.1) leg.1.1 ≡ Some c.in_ok-last.last) c.network-network.ensures c.in_ok-last.ensures in
    let within = λ (r : Route). road_cost_ops.units r.cost (most_units road.network) in
    record {
      routes = beside-more (IsLeastBy road) (legs_by places states) c.loop-leg.routes.items _ k leg route c.in_ok-push-in-Some.ensures.items c.loop-leg.invariant.routes
          (by-at places states k c.requires.one_each (omega (arith, test)))
          (found-by road leg c.in_ok-first.first c.in_ok-last.last first last c.in_ok-found.found route c.in-Some.is c.in_ok-found.ensures.least);
      bound = subst (λ (routes : List Route). All within routes) (sym c.in_ok-push-in-Some.ensures.items)
          (All-push within c.loop-leg.routes.items route c.loop-leg.invariant.bound
          (subst (λ (found : Option Route). IfSome found within) c.in-Some.is c.in_ok-found.ensures.bound));
    }

pub returns-clause-routes : goal.returns-clause-routes
returns-clause-routes c =
    let road = c.args.under.now.road in
    let legs = legs_by c.args.places.now c.args.states.now in
    let routes = c.loop-leg.routes.items in
    let count = by-count c.args.places.now c.args.states.now c.requires.one_each in
    let all : length legs ≤ c.loop-leg.leg = omega (arith, count) in
    subst (λ (front : List ((Place × Place) × (ℕ × ℕ))). AllZip (IsLeastBy road) front routes) (take_all c.loop-leg.leg legs all) c.loop-leg.invariant.routes
