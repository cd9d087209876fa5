use Rattle.std.proofs.Common.{◌≡◌, ℕ, Some, length}
use Rattle.std.specs.List.{slice_get}
use Rattle.step_search.specs.UnderWay.{IsUnderWay}
use Rattle.cell_frame.specs.Borders.{Holds}
use Rattle.cell_frame.specs.Inside.{IsInsideValue}
use Rattle.column_search.specs.Backward.{back_space}
use Rattle.column_search.proofs.columns.values.Given as goal

-- the search is under way, and each entry so far has its value
abbrev pub invariant-loop-entry : goal.invariant-loop-entry
invariant-loop-entry g l = record {
  under_way : IsUnderWay g.C.Cost.ops (back_space g.C.Cost.ops l.backward.overlay.now.frame.now l.backward.overlay.now.weights.now l.backward.toward.now.cell l.backward.toward.now.target l.backward.overlay.now.heads.now) l.starts l.search;
  count : length l.column.items ≡ l.entry-index;
  each : (j u : ℕ) (o : _) → slice_get l.entries j ≡ Some u → slice_get l.column.items j ≡ Some o → IsInsideValue g.C.Cost.ops l.backward.overlay.now.frame.now.graph l.backward.overlay.now.weights.now (Holds l.backward.overlay.now.frame.now.cells l.backward.toward.now.cell) u l.backward.toward.now.target o;
}
