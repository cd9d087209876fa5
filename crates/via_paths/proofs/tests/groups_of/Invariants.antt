use Rattle.std.proofs.Common.{All}
use Rattle.via_paths.specs.Forbidden.{HasPath, IsBelow}
use Rattle.via_paths.proofs.tests.groups_of.Given as goal

abbrev pub invariant-loop-line : goal.invariant-loop-line
invariant-loop-line g l = record {
  paths : All HasPath l.groups.items;
  ordinary : All (IsBelow 8) l.groups.items;
}
