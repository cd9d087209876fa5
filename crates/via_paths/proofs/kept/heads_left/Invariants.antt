use Rattle.std.proofs.Common.{◌≡◌, take}
use Rattle.via_paths.specs.Tries.{left_by}
use Rattle.via_paths.proofs.kept.heads_left.Given as goal

abbrev pub invariant-loop-i : goal.invariant-loop-i
invariant-loop-i l = l.left.items ≡ left_by l.vertices l.group (take l.i l.heads)
