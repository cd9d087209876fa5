use Rattle.std.proofs.Common.{◌≡◌, ◌-◌, map, take}
use Rattle.via_paths.specs.Copies.{longest}
use Rattle.via_paths.specs.Stems.{word_by}
use Rattle.via_paths.proofs.layers.longest.Given as goal

abbrev pub invariant-loop-i : goal.invariant-loop-i
invariant-loop-i l = l.most ≡ longest (take l.i (map (word_by l.groups) l.stems)) - 2
