-- Of the vertices so far is known what stands there.
use Rattle.cell_frame.specs.Spots.{AreSpots}
use Rattle.cell_frame.proofs.spots.spots_of.Given as goal

abbrev pub invariant-loop-v : goal.invariant-loop-v
invariant-loop-v l = AreSpots l.cut.graph.now l.cut.cells.now l.cut.entries.now l.known l.v
