use Rattle.std.proofs.Common.{◌≡◌, ℕ, Some, length}
use Rattle.std.specs.List.{slice_get}
use Rattle.search_graph.specs.declared.ends.Target.{Target}
use Rattle.step_search.specs.UnderWay.{IsUnderWay}
use Rattle.overlay_query.specs.Answers.{IsLeastCost}
use Rattle.overlay_query.specs.Query.{query_space}
use Rattle.overlay_query.proofs.costs.costs_over.Given as goal

-- the search is under way, and each target so far is answered
abbrev pub invariant-loop-target : goal.invariant-loop-target
invariant-loop-target g l = record {
  under_way : IsUnderWay g.C.Cost.ops (query_space g.C.Cost.ops l.over.frame.now l.over.weights.now l.over.parts.now.vertices.items) l.starts l.search;
  one_each : length l.costs.items ≡ l.target-index;
  least : (k : ℕ) (t : Target _) (cost : _) → slice_get l.targets k ≡ Some t → slice_get l.costs.items k ≡ Some cost → IsLeastCost g.C.Cost.ops l.over.frame.now l.over.weights.now l.starts t cost;
}
