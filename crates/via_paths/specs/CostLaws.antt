-- Costs of vertices, and of arcs by what both their ends stand for, are alike.
use Rattle.std.proofs.Common.{◌≡◌, ℕ, ◌+◌, ◌-◌, ◌<◌, inl, inr, cond, List, [], ◌∷◌, ◌++◌, Option, Some, None, map, length, get_or, All, arith, sym, ◌∙◌, ap, zero-add, suc-add}
use Rattle.std.specs.List.{slice_get}
use Rattle.std.specs.Option.{option_map}
use Rattle.std.proofs.lemmas.Bool.{cases_lt, lt-ltb}
use Rattle.std.proofs.lemmas.Option.{slice_get-map, slice_get-get_or}
use Rattle.list_lemmas.proofs.Gets.{Contains_get, get_some, get_append}
use Rattle.via_paths.specs.Forbidden.{last_of}
use Rattle.via_paths.specs.Expansion.{AreCopies, expanded_arcs, expanded, unexpanded, standing}
use Rattle.via_paths.specs.Standing.{IsCostedAlike}
use Rattle.via_paths.specs.ArcLaws.{standing-word, word-copy}
use Rattle.via_paths.specs.StateLaws.{copy-below}

past : {X : Type 0} (xs ys : List X) (k : ℕ) → slice_get (xs ++ ys) (length xs + k) ≡ slice_get ys k
past [] ys k = ap (slice_get ys) (zero-add k)
past (x ∷ xs) ys k = ap (slice_get (x ∷ (xs ++ ys))) (suc-add (length xs) k) ∙ past xs ys k

module _ {C : Type 0} (n : ℕ) (sequences copies : List (List ℕ)) (turns : List (ℕ × ℕ)) (vertex : List (Option C)) (cost : ℕ → ℕ → C) (are : AreCopies sequences copies) (many : length vertex ≡ n) (ordinary : All (λ s. All (λ v. v < n) s) sequences) where
  abbrev stands : ℕ → ℕ
  stands = standing n (map last_of copies)

  vertex-alike : (q : ℕ) → q < n + length copies → slice_get (vertex ++ map (λ p. get_or vertex (last_of p) None) copies) q ≡ slice_get vertex (stands q)
  vertex-alike q lt = elim (cases_lt q n) [
    | inl low ↦
        let within : q < length vertex = omega arith in
        let x = get_some vertex q within in
        get_append vertex (map (λ p. get_or vertex (last_of p) None) copies) q x.0 x.1 ∙ sym x.1
        ∙ ap (slice_get vertex) (sym (ap (λ b. cond b q (get_or (map last_of copies) (q - n) 0)) (lt-ltb q n low)))
    | inr far ↦
        let k : ℕ = q - n in
        let within : k < length copies = omega arith in
        let w : List ℕ = get_or copies k [] in
        let at : slice_get copies k ≡ Some w = slice_get-get_or copies k [] within in
        let place : q ≡ length vertex + k = omega arith in
        let low : last_of w < length vertex = let small : last_of w < n = copy-below n sequences copies are ordinary w (Contains_get copies k w at) in omega arith in
        let stand : stands q ≡ last_of w = standing-word n copies q ∙ ap last_of (word-copy n copies q far) in
        ap (slice_get (vertex ++ map (λ p. get_or vertex (last_of p) None) copies)) place
        ∙ past vertex (map (λ p. get_or vertex (last_of p) None) copies) k
        ∙ slice_get-map (λ p. get_or vertex (last_of p) None) copies k ∙ ap (option_map (λ p. get_or vertex (last_of p) None)) at
        ∙ sym (slice_get-get_or vertex (last_of w) None low) ∙ ap (slice_get vertex) (sym stand)
  ]

  pub costed : IsCostedAlike stands (unexpanded n turns) (record { vertex = vertex; arc = map (λ t. cost t.0 t.1) turns }) (expanded n sequences copies turns)
      (record { vertex = vertex ++ map (λ p. get_or vertex (last_of p) None) copies; arc = map (λ a. cost (stands a.0) (stands a.1)) (expanded_arcs n sequences copies turns) })
  costed = record {
    vertex = vertex-alike;
    arc = λ i j p q arc turn.
        slice_get-map (λ a. cost (stands a.0) (stands a.1)) (expanded_arcs n sequences copies turns) i ∙ ap (option_map (λ a. cost (stands a.0) (stands a.1))) arc
        ∙ sym (slice_get-map (λ t. cost t.0 t.1) turns j ∙ ap (option_map (λ t. cost t.0 t.1)) turn);
  }
