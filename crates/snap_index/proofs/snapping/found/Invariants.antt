use Rattle.std.proofs.Common.{◌≡◌, ◌++◌, drop}
use Rattle.geo_integer.specs.Position.{position_of}
use Rattle.snap_index.specs.Candidates.{places_found}
use Rattle.snap_index.proofs.snapping.found.Given as goal

-- the places so far, and those to come
abbrev pub invariant-loop-i : goal.invariant-loop-i
invariant-loop-i l = l.found.items ++ places_found l.radius (position_of l.from) (drop l.i l.slots) ≡ places_found l.radius (position_of l.from) l.slots
