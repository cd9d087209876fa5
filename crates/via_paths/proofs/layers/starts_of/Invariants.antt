use Rattle.std.proofs.Common.{◌≡◌, map, take}
use Rattle.via_paths.proofs.layers.starts_of.Given as goal

abbrev pub invariant-loop-i : goal.invariant-loop-i
invariant-loop-i l = l.starts.items ≡ map (λ s. s.start) (take l.i l.stems)
