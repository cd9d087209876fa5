use Rattle.std.proofs.Common.{◌≡◌, ℕ, Some, length}
use Rattle.std.specs.List.{slice_get}
use Rattle.step_search.specs.UnderWay.{IsUnderWay}
use Rattle.overlay_query.specs.Answers.{IsLeastCost}
use Rattle.column_query.specs.declared.columns.TargetPoint.{TargetPoint}
use Rattle.column_query.specs.Rows.{row_space}
use Rattle.column_query.proofs.costs.costs_over.Given as goal

-- the search is under way, and each target so far is answered
abbrev pub invariant-loop-point : goal.invariant-loop-point
invariant-loop-point g l = record {
  under_way : IsUnderWay g.C.Cost.ops (row_space g.C.Cost.ops l.over.frame.now l.over.weights.now l.over.parts.now.vertices.now) l.starts l.search;
  one_each : length l.costs.items ≡ l.point-index;
  least : (k : ℕ) (t : TargetPoint _) (cost : _) → slice_get l.targets k ≡ Some t → slice_get l.costs.items k ≡ Some cost → IsLeastCost g.C.Cost.ops l.over.frame.now l.over.weights.now l.starts t.target cost;
}
