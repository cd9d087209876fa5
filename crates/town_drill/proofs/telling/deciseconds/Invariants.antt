use Rattle.std.proofs.Common.{◌≡◌, ◌≤◌, ◌*◌, ◌^◌, take}
use Rattle.std.specs.Prelude.{sum_by}
use Rattle.town_drill.specs.Drill.{deciseconds_of}
use Rattle.town_drill.proofs.telling.deciseconds.Given as goal

-- the sum so far, and how large it is at most
abbrev pub invariant-loop-trip : goal.invariant-loop-trip
invariant-loop-trip l = (l.sum ≡ sum_by deciseconds_of (take l.trip-index l.trips)) × (l.sum ≤ l.trip-index * 2 ^ 64)
