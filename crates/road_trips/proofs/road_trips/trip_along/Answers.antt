use Rattle.std.proofs.Common.{◌≡◌, ◌∙◌, ℕ, List, ap, arith, length, subst, sym}
use Rattle.road_base.specs.declared.segments.Place.{Place}
use Rattle.std.specs.List.{slice_get}
use Rattle.trip_query.specs.Trips.{stops}
use Rattle.road_trips.specs.Trips.{stops_at}
use Rattle.road_places.specs.Places.{IsPlaceOn}
use Rattle.road_walks.specs.Legs.{AreAlong, AreLeastRoutes}
use Rattle.road_trips.proofs.StopLemmas.{AreBelow, order-below, places-each, stops-count, trip-whole}
use Rattle.road_trips.proofs.road_trips.trip_along.Goals as goal

pub stops_at-requires : goal.stops_at-requires
stops_at-requires c =
    let places = c.args.places.now in
    subst (AreBelow (length places)) (sym c.as_slice-order.ensures) (order-below c.args.under.now.road places c.args.rule c.args.best c.requires.best)

pub routes_along-requires-clause-some : goal.routes_along-requires-clause-some
routes_along-requires-clause-some c =
    let places = c.args.places.now in
    let below = order-below c.args.under.now.road places c.args.rule c.args.best c.requires.best in
    let is = c.deref.ensures.value ∙ c.in_ok-stops.ensures in
    let same : c.as_slice-order.result.now ≡ c.args.best.order = c.as_slice-order.ensures in
    let count = stops-count places c.deref.result.now c.args.rule.roundtrip c.as_slice-order.result.now (subst (AreBelow (length places)) (sym same) below) (ap length same ∙ c.requires.order) is in
    let least = count.0 in
    omega (arith, least, c.requires.some)

pub routes_along-requires-clause-few : goal.routes_along-requires-clause-few
routes_along-requires-clause-few c =
    let places = c.args.places.now in
    let below = order-below c.args.under.now.road places c.args.rule c.args.best c.requires.best in
    let is = c.deref.ensures.value ∙ c.in_ok-stops.ensures in
    let same : c.as_slice-order.result.now ≡ c.args.best.order = c.as_slice-order.ensures in
    let count = stops-count places c.deref.result.now c.args.rule.roundtrip c.as_slice-order.result.now (subst (AreBelow (length places)) (sym same) below) (ap length same ∙ c.requires.order) is in
    let most = count.1 in
    omega (arith, most, c.requires.few)

pub routes_along-requires-clause-placed : goal.routes_along-requires-clause-placed
routes_along-requires-clause-placed c k place at =
    let is = c.deref.ensures.value ∙ c.in_ok-stops.ensures in
    places-each c.args.places.now (IsPlaceOn c.args.under.now.road.network) c.requires.placed (stops c.args.rule.roundtrip c.as_slice-order.result.now) k place (sym (ap (λ (xs : List Place). slice_get xs k) is) ∙ at)

pub routes_along-requires-clause-whole : goal.routes_along-requires-clause-whole
routes_along-requires-clause-whole c =
    let is = c.deref.ensures.value ∙ c.in_ok-stops.ensures in
    trip-whole c.args.under.now.road c.args.places.now c.deref.result.now c.args.rule c.args.best c.requires.best
    (is ∙ ap (λ (order : List ℕ). stops_at c.args.places.now c.args.rule.roundtrip order) c.as_slice-order.ensures)

pub returns-clause-trip : goal.returns-clause-trip
returns-clause-trip c =
    let road = c.args.under.now.road in
    let routes = c.in_ok-routes.routes.items in
    record {
      best = c.requires.best;
      stops = c.in_ok-stops.ensures ∙ ap (λ (order : List ℕ). stops_at c.args.places.now c.args.rule.roundtrip order) c.as_slice-order.ensures;
      along = subst (λ (found : List Place). AreAlong road found routes) c.deref.ensures.value c.in_ok-routes.ensures.along;
      least = subst (λ (found : List Place). AreLeastRoutes road found routes) c.deref.ensures.value c.in_ok-routes.ensures.least;
    }

pub returns-clause-bounded : goal.returns-clause-bounded
returns-clause-bounded c =
    let places = c.args.places.now in
    let below = order-below c.args.under.now.road places c.args.rule c.args.best c.requires.best in
    let is : c.in_ok-stops.stops.items ≡ stops_at places c.args.rule.roundtrip c.args.best.order = c.in_ok-stops.ensures ∙ ap (λ (order : List ℕ). stops_at places c.args.rule.roundtrip order) c.as_slice-order.ensures in
    let count = stops-count places c.in_ok-stops.stops.items c.args.rule.roundtrip c.args.best.order below c.requires.order is in
    let most = count.1 in
    let given = ap (length {A = Place}) c.deref.ensures.value in
    let one_each = c.in_ok-routes.ensures.one_each in
    record {
      order = c.requires.order;
      one_each = omega (arith, one_each, given);
      few = omega (arith, most, c.requires.few);
      placed = λ k place at. places-each places (IsPlaceOn c.args.under.now.road.network) c.requires.placed (stops c.args.rule.roundtrip c.args.best.order) k place (sym (ap (λ (xs : List Place). slice_get xs k) is) ∙ at);
      units = c.in_ok-routes.ensures.bound;
    }
