-- The exits so far are told of.
use Rattle.cell_frame.specs.Leads.{AreLeads}
use Rattle.cell_frame.proofs.leads.leads_at.Given as goal

abbrev pub invariant-loop-place : goal.invariant-loop-place
invariant-loop-place l = AreLeads l.cut.cells.now l.cut.entries.now l.known l.level l.exits l.place l.list.items
