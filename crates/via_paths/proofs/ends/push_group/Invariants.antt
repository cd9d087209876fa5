use Rattle.std.proofs.Common.{◌≡◌, ℕ, ◌==◌, ◌&&◌, ◌||◌, List, ◌∷◌, map, take, All}
use Rattle.std.specs.List.{list_any}
use Rattle.via_paths.specs.Expansion.{held, word_of}
use Rattle.via_paths.specs.Forbidden.{has}
use Rattle.via_paths.specs.Stems.{stems_by}
use Rattle.via_paths.specs.Tries.{IsTrie, list_at}
use Rattle.via_paths.proofs.ends.push_group.Given as goal

abbrev pub invariant-loop-i : goal.invariant-loop-i
invariant-loop-i l = (copies : List (List ℕ)) → IsTrie l.trie.vertices copies l.trie.next l.trie.copied.items →
    All (λ w. held copies w ≡ w) (stems_by l.barred.starts.items l.barred.path.items l.barred.ends.items) →
    (q h : ℕ) → list_any (λ x. x == h) (list_at l.groups q)
    ≡ (list_any (λ x. x == h) (list_at l.fn.groups q) || ((l.group == h) && has (take l.i (map (λ d. d ∷ l.barred.path.items) l.barred.starts.items)) (word_of l.trie.vertices copies q)))
