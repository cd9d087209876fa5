-- A longer table serves as well.
use Rattle.cell_customize.proofs.Numbered.{IsNumbered-longer}
use Rattle.cell_customize.proofs.numbering.Numbering.room.Goals as goal

pub invariant_of-self : goal.invariant_of-self
invariant_of-self c = rw c.lengthen.ensures.longer.1 (IsNumbered-longer c.self.inside.names.items c.self.inside.table.items c.lengthen.ensures.longer.0 c.self.invariant)
