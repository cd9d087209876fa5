use Rattle.std.proofs.Common.{◌≤◌, length}
use Rattle.cell_customize.specs.Numbers.{Keeps}
use Rattle.cell_customize.specs.Local.{IsLocal}
use Rattle.cell_customize.proofs.local.Local.go_on.Given as goal

-- the vertices so far are taken
abbrev pub invariant-loop-place : goal.invariant-loop-place
invariant-loop-place g l = record {
  within : l.place ≤ length l.self.numbers;
  keeps : Keeps l.initial.self.numbers l.self.numbers;
  local : IsLocal (g.T.Steps.space l.steps) l.self.numbers l.self.spans.items l.self.hops.items l.self.heads.items l.place;
}
