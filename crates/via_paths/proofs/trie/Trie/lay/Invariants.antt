use Rattle.std.proofs.Common.{◌≡◌, ℕ, ◌+◌, ◌<◌, ◌≤◌, List, length, map, All}
use Rattle.via_paths.specs.Stems.{word_by}
use Rattle.via_paths.specs.Tries.{IsLaid}
use Rattle.via_paths.proofs.Laying.{IsPartlyLaid}
use Rattle.via_paths.proofs.trie.Trie.lay.Given as goal

abbrev pub invariant-loop-i : goal.invariant-loop-i
invariant-loop-i l = record {
  vertices : l.self.vertices ≡ l.fn.self.vertices;
  more : length l.fn.self.copied.items ≤ length l.self.copied.items;
  within : All (λ q. q < l.self.vertices + length l.self.copied.items) l.states;
  laid : (copies : List (List ℕ)) → IsLaid l.fn.self.vertices copies (map (word_by l.groups) l.stems) (l.m + 1) l.fn.self.next l.fn.self.copied.items l.fn.states →
      IsPartlyLaid l.fn.self.vertices copies (map (word_by l.groups) l.stems) (l.m + 1) l.i l.self.next l.self.copied.items l.states;
}
