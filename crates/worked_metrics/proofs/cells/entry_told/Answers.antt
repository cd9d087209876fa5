use Rattle.std.proofs.Common.{List, Option, get_or, subst, sym}
use Rattle.std.proofs.lemmas.Option.{slice_get-get_or}
use Rattle.search_graph.specs.declared.costs.WeightDurLen.{WeightDurLen}
use Rattle.cell_frame.specs.Borders.{Framed, at_cell}
use Rattle.cell_frame.specs.Cliqued.{HasCellRow}
use Rattle.worked_metrics.proofs.cells.entry_told.Goals as goal

-- the cliques have a row for each entry
pub row-row-requires-clause-has : goal.row-row-requires-clause-has
row-row-requires-clause-has c =
    let entries = at_cell c.args.under.now.frame.entries c.args.cell in
    let exact = c.cliques.ensures.rows c.args.cell c.args.i (get_or entries c.args.i 0) c.requires.cell c.requires.cell.1 (slice_get-get_or entries c.args.i 0 c.requires.entry) in
    subst (λ (f : Framed). (row : List (Option WeightDurLen)) × HasCellRow f c.cliques.result.now c.args.cell c.args.i row) (sym c.frame.ensures.value) (exact.0, exact.1)
