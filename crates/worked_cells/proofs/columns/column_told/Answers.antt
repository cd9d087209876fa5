-- What is exact for all levels is so below the cell, which holds the vertex that it is the cell of.
use Rattle.std.proofs.Common.{◌<◌, refl, sym, subst, arith}
use Rattle.cell_frame.specs.declared.cells.Cell.{Cell}
use Rattle.cell_frame.specs.Borders.{Holds}
use Rattle.worked_cells.proofs.columns.column_told.Goals as goal

pub column-requires-clause-cliques : goal.column-requires-clause-cliques
column-requires-clause-cliques c = record { rows = λ k i u is le e. c.requires.cliques.rows k i u is is.1 e; crossing = c.requires.cliques.crossing }

pub column-requires-clause-target : goal.column-requires-clause-target
column-requires-clause-target c =
    let f = c.args.overlay.now.frame.now in
    let lt : c.args.target < f.cells.vertices = omega (arith, c.known.ensures.vertices, c.requires.target) in
    subst (λ (k : Cell). Holds f.cells k c.args.target) (sym c.cell-cell.ensures.named) (lt, refl)
