use Rattle.std.proofs.Common.{◌≡◌, ◌≤◌, ◌-◌}
use Rattle.column_search.specs.Toward.{apart_up_to, level_toward}
use Rattle.column_search.proofs.toward.TowardParts.level.Given as goal

-- the cells of the levels above hold the target
abbrev pub invariant-loop-level : goal.invariant-loop-level
invariant-loop-level l = record {
  low : l.level ≤ l.self.cell.level - 1;
  same : level_toward l.frame.cells l.self.cell l.self.target l.v ≡ apart_up_to l.frame.cells l.self.target l.v l.level;
}

abbrev pub decreases-loop-level : goal.decreases-loop-level
decreases-loop-level l = l.level
