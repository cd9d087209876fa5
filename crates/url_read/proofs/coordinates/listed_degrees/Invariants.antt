use Rattle.std.proofs.Common.{eqb, length}
use Rattle.std.specs.List.{slice_split}
use Rattle.url_read.specs.Coordinates.{degrees_of}
use Rattle.url_read.proofs.Numbered.{IsFound}
use Rattle.url_read.proofs.coordinates.listed_degrees.Given as goal

-- the pairs so far are those of the coordinates so far
abbrev pub invariant-loop-coordinate : goal.invariant-loop-coordinate
invariant-loop-coordinate l = IsFound degrees_of (slice_split (λ b. eqb b 59) l.coordinates) l.degrees.items (length l.yielded)
