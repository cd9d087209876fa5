-- The inside of the cell stands on exact cliques below it, and the arcs on their heads.
use Rattle.std.proofs.Common.{length, arith, ap}
use Rattle.search_graph.specs.Digraph.{Digraph}
use Rattle.column_search.proofs.columns.column.Goals as goal

pub values-requires-clause-ready : goal.values-requires-clause-ready
values-requires-clause-ready g c = record {
  toward = record {
    framed = c.known.ensures.framed;
    small = c.requires.weights;
    exact = c.requires.cliques;
    is_cell = c.requires.cell;
    held = c.requires.target;
    toward = c.lies.ensures;
    lawful = c.known.ensures.lawful;
  };
  by_head = c.requires.heads;
  few = omega (arith, c.if-arcs-ge-TOO_MANY.false, c.arcs.ensures, ap (λ (d : Digraph). length d.arcs) c.graph.ensures);
}
