use Rattle.std.proofs.Common.{◌≡◌, ℕ, ◌+◌, Some, length}
use Rattle.std.specs.List.{slice_get}
use Rattle.cell_frame.specs.Borders.{cell_of}
use Rattle.column_search.specs.Columns.{IsColumn}
use Rattle.column_query.proofs.columns.TargetColumns.made.Given as goal

-- the columns of the levels so far
abbrev pub invariant-loop-below : goal.invariant-loop-below
invariant-loop-below g l = record {
  size : length l.levels.items ≡ l.below;
  each : (i : ℕ) (column : _) → slice_get l.levels.items i ≡ Some column → IsColumn g.C.Cost.ops l.overlay.frame.now l.overlay.weights.now (cell_of l.overlay.frame.now.cells (i + 1) l.target) l.target column;
}
