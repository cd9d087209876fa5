-- What the arcs so far cost.
use Rattle.cell_frame.specs.Cliqued.{AreCrossings}
use Rattle.cell_frame.proofs.cliques.crossing_costs.Given as goal

abbrev pub invariant-loop-i : goal.invariant-loop-i
invariant-loop-i g l = AreCrossings g.C.Cost.ops l.frame l.weights l.i l.costs
