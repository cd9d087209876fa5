use Rattle.std.proofs.Common.{◌≡◌, ℕ, Some, length}
use Rattle.std.specs.List.{slice_get}
use Rattle.search_graph.specs.declared.ends.Target.{Target}
use Rattle.plain_search.specs.Answers.{IsFound}
use Rattle.path_unpack.proofs.walks.least_from.Given as goal

-- each target so far is answered
abbrev pub invariant-loop-i : goal.invariant-loop-i
invariant-loop-i g l = record {
  one_each : length l.found.items ≡ l.i;
  least : (k : ℕ) (t : Target _) (answer : _) → slice_get l.targets k ≡ Some t → slice_get l.found.items k ≡ Some answer → IsFound g.C.Cost.ops l.frame.graph l.weights l.starts t answer;
}
