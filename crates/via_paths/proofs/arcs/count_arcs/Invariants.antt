use Rattle.std.proofs.Common.{◌≡◌, ◌+◌, ◌^◌, ◌≤◌, ℕ, List, length, take}
use Rattle.via_paths.specs.Expansion.{copy_arcs}
use Rattle.via_paths.specs.Tries.{IsAutomaton, AreFans}
use Rattle.via_paths.proofs.arcs.count_arcs.Given as goal

abbrev pub invariant-loop-k : goal.invariant-loop-k
invariant-loop-k l = record {
  room : l.turns + l.left ≤ 2 ^ 27;
  less : l.left ≤ l.room;
  is : (sequences copies : List (List ℕ)) (turns : List (ℕ × ℕ)) → IsAutomaton l.trie.vertices sequences copies l.trie.next l.trie.copied.items l.ends →
      AreFans l.trie.copied.items turns l.fans → l.left + (l.turns + length (copy_arcs l.trie.vertices sequences copies turns l.trie.vertices (take l.k copies))) ≡ 2 ^ 27;
}
