-- The levels so far are told behind the others.
use Rattle.std.proofs.Common.{◌≡◌, ◌++◌, List}
use Rattle.cell_frame.specs.Spots.{AreArcs, AreTells}
use Rattle.cell_frame.specs.declared.crossings.Crossing.{Crossing}
use Rattle.cell_frame.specs.declared.spots.Tell.{Tell}
use Rattle.cell_frame.proofs.spots.push_tells.Given as goal

abbrev pub invariant-loop-below : goal.invariant-loop-below
invariant-loop-below l = record {
  spots : l.known.spots.items ≡ l.initial.known.spots.items;
  crossings : (more : List Crossing) × (l.known.crossings.items ≡ l.initial.known.crossings.items ++ more) × AreArcs l.cut.graph.now more;
  tells : (more : List Tell) × (l.known.tells.items ≡ l.initial.known.tells.items ++ more) × AreTells l.cut.graph.now l.cut.cells.now l.cut.entries.now l.known.crossings.items l.v l.below more;
}
