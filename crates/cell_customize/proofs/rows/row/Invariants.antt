use Rattle.std.proofs.Common.{◌≡◌, ℕ, ◌++◌, List, Option, Some, length}
use Rattle.std.specs.List.{slice_get}
use Rattle.cell_frame.specs.Borders.{Holds}
use Rattle.cell_frame.specs.Inside.{IsInsideValue}
use Rattle.cell_customize.proofs.rows.row.Given as goal

-- behind the values each exit so far has its value
abbrev pub invariant-loop-exit : goal.invariant-loop-exit
invariant-loop-exit g l = record {
  row : List (Option g.row.C.Denot);
  behind : l.values ≡ l.initial.values ++ row;
  count : length row ≡ l.exit-index;
  each : (j v : ℕ) (o : _) → slice_get l.exits j ≡ Some v → slice_get row j ≡ Some o → IsInsideValue g.C.Cost.ops l.leaping.steps.now.steps.now.frame.now.graph l.leaping.steps.now.steps.now.weights.now (Holds l.leaping.steps.now.steps.now.frame.now.cells l.leaping.steps.now.steps.now.parts.now.cell) l.entry v o;
}
