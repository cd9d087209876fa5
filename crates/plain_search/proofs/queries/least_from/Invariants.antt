use Rattle.std.proofs.Common.{◌≡◌, ℕ, Some, length}
use Rattle.std.specs.List.{slice_get}
use Rattle.search_graph.specs.declared.ends.Target.{Target}
use Rattle.step_search.specs.UnderWay.{IsUnderWay}
use Rattle.step_search.specs.ArcSpace.{arc_space}
use Rattle.plain_search.specs.Answers.{IsFound}
use Rattle.plain_search.proofs.queries.least_from.Given as goal

-- the search is under way, and each target so far is answered
abbrev pub invariant-loop-target : goal.invariant-loop-target
invariant-loop-target g l = record {
  under_way : IsUnderWay g.C.Cost.ops (arc_space g.C.Cost.ops l.graph l.weights) l.starts l.search;
  one_each : length l.found.items ≡ l.target-index;
  least : (k : ℕ) (t : Target _) (answer : _) → slice_get l.targets k ≡ Some t → slice_get l.found.items k ≡ Some answer → IsFound g.C.Cost.ops l.graph l.weights l.starts t answer;
}
