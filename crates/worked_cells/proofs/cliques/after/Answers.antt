-- Weights are small for the frame's graph.
use Rattle.worked_cells.proofs.cliques.after.Goals as goal

pub brought_up-requires-clause-old : goal.brought_up-requires-clause-old
brought_up-requires-clause-old c = rw c.graph-graph.ensures at c.in_ok-before.ensures.small

pub brought_up-requires-clause-new : goal.brought_up-requires-clause-new
brought_up-requires-clause-new c = rw c.graph-graph.ensures at c.in_ok-after.ensures.small
