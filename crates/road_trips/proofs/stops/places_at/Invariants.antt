use Rattle.std.proofs.Common.{◌≡◌, take}
use Rattle.road_trips.specs.Trips.{places_at}
use Rattle.road_trips.proofs.stops.places_at.Given as goal

-- the places of the numbers so far
abbrev pub invariant-loop-number : goal.invariant-loop-number
invariant-loop-number l = l.found.items ≡ places_at l.places (take l.number-index l.numbers)
