use Rattle.std.proofs.Common.{◌≡◌, ℕ, List, ◌++◌, take}
use Rattle.via_paths.specs.Expansion.{word_of}
use Rattle.via_paths.specs.Tries.{IsAutomaton, out_by}
use Rattle.via_paths.proofs.arcs.push_out.Given as goal

abbrev pub invariant-loop-i : goal.invariant-loop-i
invariant-loop-i l = (sequences copies : List (List ℕ)) → IsAutomaton l.trie.vertices sequences copies l.trie.next l.trie.copied.items l.ends →
    l.arcs.items ≡ l.fn.arcs.items ++ out_by l.trie.vertices sequences copies l.state (word_of l.trie.vertices copies l.state) (take l.i l.heads)
