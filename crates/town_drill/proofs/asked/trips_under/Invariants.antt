use Rattle.std.proofs.Common.{take}
use Rattle.std.specs.List.{range_with_len}
use Rattle.town_drill.specs.Drill.{AreTrips}
use Rattle.town_drill.proofs.asked.trips_under.Given as goal

-- the trips so far
abbrev pub invariant-loop-number : goal.invariant-loop-number
invariant-loop-number l = AreTrips l.under.road l.n l.metric (take l.number (range_with_len 0 16)) l.trips.items
