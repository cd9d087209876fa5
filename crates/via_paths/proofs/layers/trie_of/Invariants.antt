use Rattle.std.proofs.Common.{◌≡◌, ◌+◌, ◌<◌, length, map, All}
use Rattle.via_paths.specs.Copies.{layers}
use Rattle.via_paths.specs.Stems.{word_by}
use Rattle.via_paths.specs.Tries.{IsLaid}
use Rattle.via_paths.proofs.layers.trie_of.Given as goal

abbrev pub invariant-loop-m : goal.invariant-loop-m
invariant-loop-m l = record {
  vertices : l.trie.vertices ≡ l.vertices;
  each : length l.states ≡ length l.stems;
  within : All (λ q. q < l.trie.vertices + length l.trie.copied.items) l.states;
  laid : IsLaid l.vertices (layers l.m (map (word_by l.groups) l.stems)) (map (word_by l.groups) l.stems) (l.m + 1) l.trie.next l.trie.copied.items l.states;
}
