-- The entries ascend, so that what isn't found isn't there.
use Rattle.cell_frame.specs.Borders.{at_cell}
use Rattle.cell_frame.proofs.Entering.{not_found}
use Rattle.cell_frame.proofs.frame.Frame.entry.Goals as goal

pub returns-in-Err-clause-none : goal.returns-in-Err-clause-none
returns-in-Err-clause-none c =
    let up = c.known.ensures.entries_ascend c.args.cell c.requires in
    let found = rw (c.in-Err.is, c.entries.ensures) at c.binary_search.ensures.position in
    not_found (at_cell c.args.self.now.entries c.args.cell) c.args.v _ up found
