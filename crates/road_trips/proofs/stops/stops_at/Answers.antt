use Rattle.std.proofs.Common.{◌≡◌, ℕ, List, length, subst, sym, ◌∙◌}
use Rattle.std.specs.Prelude.{IfOk}
use Rattle.road_trips.specs.Trips.{places_at}
use Rattle.road_trips.proofs.StopLemmas.{AreBelow, stops-below}
use Rattle.road_trips.proofs.stops.stops_at.Goals as goal

pub places_at-requires : goal.places_at-requires
places_at-requires c =
    let n = length c.args.places.now in
    subst (AreBelow n) (sym (c.deref.ensures.value ∙ c.in_ok-numbers.ensures)) (stops-below n c.args.roundtrip c.args.order.now c.requires)

pub returns : goal.returns
returns c =
    subst (λ (numbers : List ℕ). IfOk c.places_at.result (λ found. found.items ≡ places_at c.args.places.now numbers)) (c.deref.ensures.value ∙ c.in_ok-numbers.ensures) c.places_at.ensures
