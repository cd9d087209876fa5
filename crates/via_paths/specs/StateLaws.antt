-- Each vertex of the graph with copies is the state of its own word, and a state stands for the last vertex of its walk.
use Rattle.std.proofs.Common.{◌≡◌, ℕ, suc, ◌+◌, ◌-◌, ◌<◌, ◌≤◌, inl, inr, true, List, [], ◌∷◌, ◌++◌, Some, map, length, get_or, All, arith, refl, sym, ◌∙◌, ap, subst}
use Rattle.std.specs.List.{Contains, slice_get, position_or_len}
use Rattle.std.proofs.lemmas.Bool.{cases_lt}
use Rattle.std.proofs.lemmas.Option.{slice_get-get_or}
use Rattle.list_lemmas.proofs.Gets.{Contains_get}
use Rattle.via_paths.specs.Forbidden.{same, has, last_of}
use Rattle.via_paths.specs.Expansion.{AreCopies, IsStateOf, held, number, word_of, standing}
use Rattle.via_paths.specs.WordLaws.{Contains-has}
use Rattle.via_paths.specs.HeldLaws.{held-last, held-whole}
use Rattle.via_paths.specs.ArcLaws.{placed, held-word, standing-word, word-ordinary, word-copy}

-- the last of a front of small numbers is small
last-below : (n : ℕ) (w rest : List ℕ) → 1 ≤ length w → All (λ v. v < n) (w ++ rest) → last_of w < n
last-below n [] rest some all = absurd (omega arith)
last-below n (v ∷ []) rest some all = all 0 v (omega arith)
last-below n (v ∷ x ∷ w) rest some all = last-below n (x ∷ w) rest (omega arith) (λ k d lt. all (suc k) d (omega arith))

module _ (n : ℕ) (sequences copies : List (List ℕ)) (are : AreCopies sequences copies) where
  -- the number of the copy at place k
  number-copy : (k : ℕ) (w : List ℕ) → 2 ≤ length w → has copies w ≡ true → slice_get copies k ≡ Some w → number n copies w ≡ n + k
  number-copy k [] two found at = absurd (omega arith)
  number-copy k (v ∷ []) two found at = absurd (omega arith)
  number-copy k (v ∷ x ∷ w) two found at =
      let place : ℕ = position_or_len (same (v ∷ x ∷ w)) copies in
      let there = placed copies (v ∷ x ∷ w) found in
      let got : slice_get copies place ≡ Some (v ∷ x ∷ w) = slice_get-get_or copies place [] there.0 ∙ ap Some there.1 in
      ap (λ (j : ℕ). n + j) (are.once place k (v ∷ x ∷ w) got at)

  module _ (ordinary : All (λ s. All (λ v. v < n) s) sequences) where
    -- the last vertex of the word of a copy is ordinary
    pub copy-below : (w : List ℕ) → Contains copies w → last_of w < n
    copy-below w h =
        let p = are.prefix w h in
        let some : 1 ≤ length w = let two : 2 ≤ length w = p.0 in omega arith in
        let all : All (λ v. v < n) p.1 = subst (λ (s : List ℕ). All (λ v. v < n) s) p.4.2 (ordinary p.4.0 p.1 p.4.1) in
        last-below n w (p.2 ∷ p.3) some (subst (λ (s : List ℕ). All (λ v. v < n) s) p.5 all)

    pub own-state : (q : ℕ) → q < n + length copies → IsStateOf n copies (word_of n copies q) q
    own-state q lt = elim (cases_lt q n) [
      | inl low ↦
          let alone : IsStateOf n copies (q ∷ []) q = record { begun = omega arith; ordinary = low; is = refl } in
          subst (λ (w : List ℕ). IsStateOf n copies w q) (sym (word-ordinary n copies q low)) alone
      | inr far ↦
          let k : ℕ = q - n in
          let within : k < length copies = omega arith in
          let w : List ℕ = get_or copies k [] in
          let at : slice_get copies k ≡ Some w = slice_get-get_or copies k [] within in
          let among : Contains copies w = Contains_get copies k w at in
          let found : has copies w ≡ true = Contains-has copies w among in
          let two : 2 ≤ length w = (are.prefix w among).0 in
          let back : q ≡ n + k = omega arith in
          let is : number n copies (held copies w) ≡ n + k = ap (number n copies) (held-whole copies w found) ∙ number-copy k w two found at in
          let own : IsStateOf n copies w q = record { begun = omega arith; ordinary = copy-below w among; is = back ∙ sym is } in
          subst (λ (v : List ℕ). IsStateOf n copies v q) (sym (word-copy n copies q far)) own
    ]

-- a state stands for the last vertex of its walk
pub state-last : (n q : ℕ) (copies : List (List ℕ)) (walk : List ℕ) → IsStateOf n copies walk q → standing n (map last_of copies) q ≡ last_of walk
state-last n q copies [] h = let some : 1 ≤ length {A = ℕ} [] = h.begun in absurd (omega arith)
state-last n q copies (a ∷ b) h =
    standing-word n copies q ∙ ap last_of (ap (word_of n copies) h.is ∙ (held-word n copies a b h.ordinary).0) ∙ held-last copies (a ∷ b)
