-- The levels so far are told of.
use Rattle.cell_frame.specs.Leads.{AreLevels}
use Rattle.cell_frame.proofs.leads.leads_of.Given as goal

abbrev pub invariant-loop-below : goal.invariant-loop-below
invariant-loop-below l = AreLevels l.cut.cells.now l.cut.entries.now l.known l.exits l.below l.leads.items
