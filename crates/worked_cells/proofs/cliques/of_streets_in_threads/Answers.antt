-- Weights are small for the frame's graph.
use Rattle.worked_cells.proofs.cliques.of_streets_in_threads.Goals as goal

pub customize_in_threads-requires-clause-weights : goal.customize_in_threads-requires-clause-weights
customize_in_threads-requires-clause-weights g c κs within = rw c.graph.ensures at c.in_ok-weights.ensures.small
