-- Each number is that of a place.
use Rattle.std.proofs.Common.{◌<◌, ◌++◌, ◌∷◌, [], List, ap, get_or, length, sym, ◌∙◌}
use Rattle.std.proofs.lemmas.Option.{slice_get-get_or}
use Rattle.list_lemmas.proofs.Gets.{Contains_get}
use Rattle.road_base.specs.declared.segments.Place.{Place}
use Rattle.road_trips.proofs.StopLemmas.{places-more}
use Rattle.road_trips.proofs.stops.places_at.Goals as goal

pub bounds-places-number : goal.bounds-places-number
bounds-places-number c =
    let numbers = c.args.numbers.now in
    let k = c.loop-number.number-index in
    c.requires (get_or numbers k 0) (Contains_get numbers k (get_or numbers k 0) (slice_get-get_or numbers k 0 c.loop-number-test.true))

-- one place more
pub loop-number-preserved : goal.loop-number-preserved
loop-number-preserved c =
    let numbers = c.args.numbers.now in
    let places = c.args.places.now in
    let k = c.loop-number.number-index in
    let i = get_or numbers k 0 in
    let nowhere : Place = record { segment = 0; at = 0 } in
    let place = get_or places i nowhere in
    let lt : i < length places = c.requires i (Contains_get numbers k i (slice_get-get_or numbers k 0 c.loop-number-test.true)) in
    c.in_ok-push.ensures.items
    ∙ ap (λ (xs : List Place). xs ++ place ∷ []) c.loop-number.invariant
    ∙ sym (places-more places numbers k 0 place c.loop-number-test.true (slice_get-get_or places i nowhere lt))
