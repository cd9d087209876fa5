-- Of the arcs so far those that lead to other cells stand behind the others.
use Rattle.std.proofs.Common.{◌≡◌, ◌++◌, List}
use Rattle.cell_frame.specs.Spots.{AreAcrossOf}
use Rattle.cell_frame.specs.declared.crossings.Crossing.{Crossing}
use Rattle.cell_frame.proofs.crossings.push_crossings.Given as goal

abbrev pub invariant-loop-place : goal.invariant-loop-place
invariant-loop-place l = (more : List Crossing) × (l.crossings.items ≡ l.initial.crossings.items ++ more) × AreAcrossOf l.graph l.cells l.level l.v l.arcs l.place more
