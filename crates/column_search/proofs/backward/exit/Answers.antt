-- The exits ascend, so that what isn't found isn't there.
use Rattle.cell_frame.specs.Borders.{at_cell}
use Rattle.column_search.proofs.Finding.{not_found}
use Rattle.column_search.proofs.backward.exit.Goals as goal

pub returns-in-Err-clause-none : goal.returns-in-Err-clause-none
returns-in-Err-clause-none c =
    let up = c.known.ensures.exits_ascend c.args.cell c.requires in
    let found = rw (c.in-Err.is, c.exits.ensures) at c.binary_search.ensures.position in
    not_found (at_cell c.args.frame.now.exits c.args.cell) c.args.v _ up found
