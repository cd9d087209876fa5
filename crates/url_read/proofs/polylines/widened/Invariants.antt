use Rattle.std.proofs.Common.{◌≡◌, take}
use Rattle.url_read.proofs.polylines.widened.Given as goal

-- the numbers so far
abbrev pub invariant-loop-lon : goal.invariant-loop-lon
invariant-loop-lon l = l.degrees.items ≡ take l.lon-index l.points
