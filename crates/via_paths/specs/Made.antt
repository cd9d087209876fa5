-- What is kept of copies.
use Rattle.std.specs.Prelude.{◌≡◌, ℕ, List}
use Rattle.via_paths.specs.declared.expansion.Copies.{Copies}
use Rattle.via_paths.specs.Copies.{copies_of}
use Rattle.via_paths.specs.Tries.{IsAutomaton}

-- how many ordinary vertices there are
abbrev pub ordinary_of : Copies → ℕ
ordinary_of c = c.trie.vertices

-- The copies are those of n ordinary vertices and of these sequences. What that comes to is for this crate alone: a user
-- hands it on from the call that makes them to those that read them.
pub record AreMadeOf (n : ℕ) (sequences : List (List ℕ)) (c : Copies) : Type 0 where
  pub vertices : ordinary_of c ≡ n
  pub automaton : IsAutomaton (ordinary_of c) sequences (copies_of sequences) c.trie.next c.trie.copied.items c.ends
