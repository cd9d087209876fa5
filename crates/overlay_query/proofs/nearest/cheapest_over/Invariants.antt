use Rattle.step_search.specs.UnderWay.{IsUnderWay}
use Rattle.overlay_query.specs.Best.{IsBest}
use Rattle.overlay_query.specs.Query.{query_space}
use Rattle.overlay_query.proofs.nearest.cheapest_over.Given as goal

-- the search is under way, and `best` is the best of the targets so far
abbrev pub invariant-loop-target : goal.invariant-loop-target
invariant-loop-target g l = record {
  under_way : IsUnderWay g.C.Cost.ops (query_space g.C.Cost.ops l.over.frame.now l.over.weights.now l.over.parts.now.vertices.items) l.starts l.search;
  best : IsBest g.C.Cost.ops l.over.frame.now l.over.weights.now l.over.parts.now.vertices.items l.starts l.targets l.target-index l.best;
}
