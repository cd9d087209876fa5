-- The search stays under way, none of the targets is settled, and fewer and fewer vertices are open.
use Rattle.std.proofs.Common.{◌≡◌, ℕ, false}
use Rattle.std.specs.List.{Contains}
use Rattle.search_labels.specs.Labelled.{settled_of}
use Rattle.step_search.specs.Stepping.{open_below}
use Rattle.step_search.specs.UnderWay.{IsUnderWay}
use Rattle.step_search.proofs.dijkstra.Search.run_first.Given as goal

abbrev pub invariant-loop-v : goal.invariant-loop-v
invariant-loop-v g l = record {
  under_way : IsUnderWay g.C.Cost.ops (g.T.Steps.space l.steps) l.starts l.self;
  unsettled : (t : ℕ) → Contains l.targets t → settled_of l.self.labels t ≡ false;
}

abbrev pub decreases-loop-v : goal.decreases-loop-v
decreases-loop-v g l = open_below (settled_of l.self.labels) (g.T.Steps.space l.steps).vertices
