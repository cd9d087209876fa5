use Rattle.std.proofs.Common.{◌≡◌, false, take}
use Rattle.std.specs.HashSet.{contains}
use Rattle.std.specs.List.{list_any}
use Rattle.via_paths.specs.Tries.{pair_eq}
use Rattle.via_paths.proofs.ended.Ends.have.Given as goal

abbrev pub invariant-loop-i : goal.invariant-loop-i
invariant-loop-i l = list_any (λ g. contains pair_eq l.self.vertices (g, l.vertex)) (take l.i l.groups) ≡ false
