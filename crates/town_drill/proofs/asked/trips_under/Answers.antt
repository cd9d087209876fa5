use Rattle.std.proofs.Common.{◌≡◌, ◌+◌, ◌≤◌, ◌<◌, ◌∙◌, ℕ, List, Some, ap, arith, length, refl, subst, sym, take}
use Rattle.std.specs.List.{AllZip, range_with_len}
use Rattle.std.proofs.lemmas.List.{take_all}
use Rattle.list_lemmas.proofs.Fronts.{all_zip-more}
use Rattle.town_drill.specs.Asked.{node_position, start_of, stop_of}
use Rattle.town_drill.specs.Trips.{IsTrip}
use Rattle.town_drill.specs.declared.trips.Trip.{Trip}
use Rattle.town_drill.proofs.Ranges.{range-get}
use Rattle.town_drill.proofs.TripLemmas.{trip-between}
use Rattle.town_drill.proofs.asked.trips_under.Goals as goal

-- one trip more
pub loop-number-preserved : goal.loop-number-preserved
loop-number-preserved c =
    let road = c.args.under.now.road in
    let n = c.args.n in
    let k = c.args.metric in
    let q = c.loop-number.number in
    let lt : q < 16 = omega arith in
    subst (λ (trips : List Trip). AllZip (λ i trip. IsTrip road (node_position n (start_of n k i)) (node_position n (stop_of n k i)) trip) (take (q + 1) (range_with_len 0 16)) trips) (sym c.in_ok-push.ensures.items)
    (all_zip-more (λ i trip. IsTrip road (node_position n (start_of n k i)) (node_position n (stop_of n k i)) trip) (range_with_len 0 16) c.loop-number.trips.items q q c.in_ok-one.one c.loop-number.invariant
    (range-get 0 16 q lt ∙ ap (λ i. Some i) (let e : 0 + q ≡ q = omega arith in e))
    (trip-between road n k q _ _ _ _ c.in_ok-one.one c.node_point-from.ensures c.start_of.ensures.value c.node_point-to.ensures c.stop_of.ensures.value c.in_ok-one.ensures))

-- all of them
pub returns : goal.returns
returns c =
    let road = c.args.under.now.road in
    let n = c.args.n in
    let k = c.args.metric in
    let all : length (range_with_len 0 16) ≤ c.loop-number.number = omega arith in
    subst (λ (front : List ℕ). AllZip (λ i trip. IsTrip road (node_position n (start_of n k i)) (node_position n (stop_of n k i)) trip) front c.loop-number.trips.items)
    (take_all c.loop-number.number (range_with_len 0 16) all) c.loop-number.invariant
