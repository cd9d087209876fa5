-- The search stays under way, with fewer and fewer open vertices.
use Rattle.search_labels.specs.Labelled.{settled_of}
use Rattle.step_search.specs.Stepping.{open_below}
use Rattle.step_search.specs.UnderWay.{IsUnderWay}
use Rattle.step_search.proofs.dijkstra.Search.run_below.Given as goal

abbrev pub invariant-loop-limit : goal.invariant-loop-limit
invariant-loop-limit g l = IsUnderWay g.C.Cost.ops (g.T.Steps.space l.steps) l.starts l.self

abbrev pub decreases-loop-limit : goal.decreases-loop-limit
decreases-loop-limit g l = open_below (settled_of l.self.labels) (g.T.Steps.space l.steps).vertices
