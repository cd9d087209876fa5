use Rattle.std.proofs.Common.{◌≡◌, take}
use Rattle.via_paths.specs.Tries.{vertices_in}
use Rattle.via_paths.proofs.expansion.Copies.stands_for.Given as goal

abbrev pub invariant-loop-k : goal.invariant-loop-k
invariant-loop-k l = l.stands_for.items ≡ vertices_in (take l.k l.self.trie.copied.items)
