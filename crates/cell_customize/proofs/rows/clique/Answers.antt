-- The inside of the cell stands on exact cliques below it.
use Rattle.cell_customize.proofs.rows.clique.Goals as goal

pub all_rows-requires-clause-inner : goal.all_rows-requires-clause-inner
all_rows-requires-clause-inner g c = record {
  framed = c.known.ensures.framed;
  small = c.requires.weights;
  exact = c.requires.cliques;
  is_cell = c.requires.cell;
  lawful = c.known.ensures.lawful;
  borders = c.borders.ensures;
}
