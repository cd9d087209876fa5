-- What the parts of an expansion come to.
use Rattle.std.proofs.Common.{◌≡◌, ℕ, ◌+◌, ◌^◌, ◌≤◌, List, [], ◌∷◌, ◌++◌, map, length, All, arith, refl, sym, ◌∙◌, ap, subst, append-nil, length-append}
use Rattle.std.proofs.lemmas.List.{length-map}
use Rattle.via_paths.specs.declared.copied.Copied.{Copied}
use Rattle.via_paths.specs.declared.ended.Ends.{Ends}
use Rattle.via_paths.specs.Forbidden.{last_of}
use Rattle.via_paths.specs.Copies.{copies_of}
use Rattle.via_paths.specs.Expansion.{AreCopies, copy_arcs, expanded_arcs, onward}
use Rattle.via_paths.specs.Tries.{NextMap, IsTrie, AreEnds, IsAutomaton, entry_of, first_arcs, vertices_in}
use Rattle.via_paths.specs.PrefixLaws.{copies_of-are}
use Rattle.via_paths.proofs.Falling.{copies-many}

module _ (n m : ℕ) (words : List (List ℕ)) (next : NextMap) (copied : List Copied) (same : m ≡ n) (t : IsTrie n (copies_of words) next copied) where
  pub few-copies : length copied ≤ 2 ^ 20 → length (copies_of words) ≤ 2 ^ 20
  few-copies few = omega (arith, copies-many n (copies_of words) next copied t)

  pub trie-too : IsTrie m (copies_of words) next copied
  trie-too = subst (λ (k : ℕ). IsTrie k (copies_of words) next copied) (sym same) t

  pub automaton : (ends : Ends) → All (λ s. 3 ≤ length s) words →
      ((copies : List (List ℕ)) → IsTrie m copies next copied → AreCopies words copies → AreEnds m words copies ends) → IsAutomaton m words (copies_of words) next copied ends
  automaton ends long told = record { long = long; trie = trie-too; are = copies_of-are words; ended = told (copies_of words) trie-too (copies_of-are words) }

  pub stands : vertices_in copied ≡ map last_of (copies_of words)
  stands = ap vertices_in t.entries ∙ by (copies_of words)
    where
      by : (rs : List (List ℕ)) → vertices_in (map (entry_of n (copies_of words)) rs) ≡ map last_of rs
      by [] = refl
      by (r ∷ rs) = ap (λ (l : List ℕ). last_of r ∷ l) (by rs)

module _ (m n : ℕ) (words copies : List (List ℕ)) (turns : List (ℕ × ℕ)) (same : m ≡ n) where
  -- the arcs of the turns, and those of the copies behind them
  pub all-arcs : (first all : List (ℕ × ℕ)) → first ≡ first_arcs m copies turns → all ≡ first ++ copy_arcs m words copies turns m copies → all ≡ expanded_arcs n words copies turns
  all-arcs first all is more =
      subst (λ (k : ℕ). all ≡ expanded_arcs k words copies turns) same (more ∙ ap (λ (l : List (ℕ × ℕ)). l ++ copy_arcs m words copies turns m copies) is)

  pub arcs-count : length turns + length (copy_arcs m words copies turns m copies) ≡ length (expanded_arcs n words copies turns)
  arcs-count =
      let len : length (expanded_arcs m words copies turns) ≡ length (first_arcs m copies turns) + length (copy_arcs m words copies turns m copies) =
      length-append (first_arcs m copies turns) (copy_arcs m words copies turns m copies) in
      let first : length (first_arcs m copies turns) ≡ length turns = length-map turns _ in
      let here : length turns + length (copy_arcs m words copies turns m copies) ≡ length (expanded_arcs m words copies turns) = omega arith in
      subst (λ (k : ℕ). length turns + length (copy_arcs m words copies turns m copies) ≡ length (expanded_arcs k words copies turns)) same here

-- there are no fewer arcs than turns
pub arcs-more : (n : ℕ) (words copies : List (List ℕ)) (turns : List (ℕ × ℕ)) → length turns ≤ length (expanded_arcs n words copies turns)
arcs-more n words copies turns = omega (arith, arcs-count n n words copies turns refl)

-- without sequences they are the turns
pub arcs-none : (n : ℕ) (turns : List (ℕ × ℕ)) → expanded_arcs n [] [] turns ≡ turns
arcs-none n turns = append-nil (map {A = ℕ × ℕ} {B = ℕ × ℕ} (λ turn. (turn.0, onward n [] (turn.0 ∷ []) turn.1)) turns) ∙ by turns
  where
    by : (turns : List (ℕ × ℕ)) → map {A = ℕ × ℕ} {B = ℕ × ℕ} (λ turn. (turn.0, onward n [] (turn.0 ∷ []) turn.1)) turns ≡ turns
    by [] = refl
    by (t ∷ turns) = ap (λ (l : List (ℕ × ℕ)). t ∷ l) (by turns)
