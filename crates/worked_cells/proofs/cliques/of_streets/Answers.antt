-- Weights are small for the frame's graph.
use Rattle.worked_cells.proofs.cliques.of_streets.Goals as goal

pub customize-requires : goal.customize-requires
customize-requires c = record { weights = rw c.graph.ensures at c.in_ok-weights.ensures.small }
