-- The search stays under way, with fewer and fewer open vertices.
use Rattle.search_labels.specs.Labelled.{settled_of}
use Rattle.step_search.specs.Stepping.{open_below}
use Rattle.step_search.specs.UnderWay.{IsUnderWay}
use Rattle.step_search.proofs.dijkstra.Search.run.Given as goal

abbrev pub invariant-loop-self : goal.invariant-loop-self
invariant-loop-self g l = IsUnderWay g.C.Cost.ops (g.T.Steps.space l.steps) l.starts l.self

abbrev pub decreases-loop-self : goal.decreases-loop-self
decreases-loop-self g l = open_below (settled_of l.self.labels) (g.T.Steps.space l.steps).vertices
