use Rattle.std.proofs.Common.{◌≡◌, ◌++◌, List, Option}
use Rattle.cell_customize.specs.Levels.{AreRows}
use Rattle.cell_customize.proofs.rows.rows.Given as goal

-- behind the values the entries so far have their rows
abbrev pub invariant-loop-entry : goal.invariant-loop-entry
invariant-loop-entry g l = record {
  clique : List (Option g.row.C.Denot);
  behind : l.values ≡ l.initial.values ++ clique;
  rows : AreRows g.C.Cost.ops l.leaping.steps.now.steps.now.frame.now l.leaping.steps.now.steps.now.weights.now l.leaping.steps.now.steps.now.parts.now.cell clique l.entry-index;
}
