use Rattle.std.proofs.Common.{◌≡◌, ℕ, ◌==◌, List, take}
use Rattle.std.specs.HashSet.{contains}
use Rattle.std.specs.List.{list_any}
use Rattle.via_paths.specs.Expansion.{AreCopies, word_of}
use Rattle.via_paths.specs.Forbidden.{words_in}
use Rattle.via_paths.specs.Tries.{IsTrie, list_at, pair_eq}
use Rattle.via_paths.proofs.Gathering.{gathered, stands, ends_on}
use Rattle.via_paths.proofs.ends.ends_of.Given as goal

abbrev pub invariant-loop-g : goal.invariant-loop-g
invariant-loop-g l = record {
  kept : (copies : List (List ℕ)) → IsTrie l.trie.vertices copies l.trie.next l.trie.copied.items → AreCopies (words_in l.groups) copies →
      (q h : ℕ) → list_any (λ x. x == h) (list_at l.by_state q) ≡ gathered (stands (word_of l.trie.vertices copies q)) (take l.g l.groups) h;
  on : (h e : ℕ) → contains pair_eq l.vertices (h, e) ≡ gathered (ends_on e) (take l.g l.groups) h;
}
