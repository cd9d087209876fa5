-- Weights are small for the frame's graph.
use Rattle.worked_cells.proofs.cliques.after_in_threads.Goals as goal

pub brought_up_in_threads-requires-clause-old : goal.brought_up_in_threads-requires-clause-old
brought_up_in_threads-requires-clause-old g c κs within = rw c.graph-graph.ensures at c.in_ok-before.ensures.small

pub brought_up_in_threads-requires-clause-new : goal.brought_up_in_threads-requires-clause-new
brought_up_in_threads-requires-clause-new g c κs within = rw c.graph-graph.ensures at c.in_ok-after.ensures.small
