use Rattle.std.proofs.Common.{◌≡◌, ℕ, List, length, take, drop}
use Rattle.via_paths.specs.Tries.{IsTrie, first_arcs}
use Rattle.via_paths.proofs.arcs.put_arcs.Given as goal

abbrev pub invariant-loop-i : goal.invariant-loop-i
invariant-loop-i l = record {
  many : length l.turns.items ≡ length l.fn.turns.items;
  ahead : drop l.i l.turns.items ≡ drop l.i l.fn.turns.items;
  done : (copies : List (List ℕ)) → IsTrie l.trie.vertices copies l.trie.next l.trie.copied.items → take l.i l.turns.items ≡ first_arcs l.trie.vertices copies (take l.i l.fn.turns.items);
}
