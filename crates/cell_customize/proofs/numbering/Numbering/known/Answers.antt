-- Each vertex's place is in the table.
use Rattle.cell_customize.proofs.Numbered.{numbered_distinct}
use Rattle.cell_customize.proofs.numbering.Numbering.known.Goals as goal

pub returns : goal.returns
returns c = rw (← c.self.view_is) (numbered_distinct c.self.inside.names.items c.self.inside.table.items c.self.invariant)
