-- Each target so far has its answer.
use Rattle.std.proofs.Common.{◌≡◌, ℕ, Some, Option, length}
use Rattle.std.specs.List.{slice_get}
use Rattle.step_search.specs.Paths.{IsAnswer}
use Rattle.step_search.specs.UnderWay.{IsUnderWay}
use Rattle.step_search.specs.declared.dijkstra.Reached.{Reached}
use Rattle.step_search.proofs.dijkstra.least.Given as goal

abbrev pub invariant-loop-target : goal.invariant-loop-target
invariant-loop-target g l = record {
  under_way : IsUnderWay g.C.Cost.ops (g.T.Steps.space l.steps) l.starts l.search;
  one_each : length l.found.items ≡ l.target-index;
  least : (k t : ℕ) (answer : Option (Reached g.row.C.Denot)) → slice_get l.targets k ≡ Some t → slice_get l.found.items k ≡ Some answer → IsAnswer g.C.Cost.ops (g.T.Steps.space l.steps) l.starts t answer;
}
