-- The cells so far are named.
use Rattle.overlay_query.specs.TerminalCells.{AreNames}
use Rattle.overlay_query.proofs.terminals.names_of.Given as goal

abbrev pub invariant-loop-number : goal.invariant-loop-number
invariant-loop-number l = AreNames l.frame l.marks.vertices.now l.names.items l.number
