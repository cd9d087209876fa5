use Rattle.cell_frame.specs.Listing.{AreEach, IsCellOf}
use Rattle.cell_frame.proofs.listing.cells_of.Given as goal

-- the vertices so far have their numbers
abbrev pub invariant-loop-vertex : goal.invariant-loop-vertex
invariant-loop-vertex l = AreEach (IsCellOf l.cells l.level) l.vertices l.numbers.items l.vertex-index
