-- The state of a walk holds what it takes to tell the next state: one vertex on, the state's word serves as well as
-- the walk.
use Rattle.std.proofs.Common.{◌≡◌, ℕ, ◌≤◌, inl, inr, Bool, true, false, ◌||◌, cond, List, [], ◌∷◌, ◌++◌, length, arith, refl, sym, ◌∙◌, ap, append_assoc}
use Rattle.std.proofs.lemmas.Bool.{cases_Bool}
use Rattle.via_paths.specs.Forbidden.{has, ends_in, last_of}
use Rattle.via_paths.specs.Expansion.{AreCopies, held}
use Rattle.via_paths.specs.WordLaws.{has-Contains, Contains-has}

-- a word that has a copy is held whole
pub held-whole : (copies : List (List ℕ)) (p : List ℕ) → has copies p ≡ true → held copies p ≡ p
held-whole copies [] found = refl
held-whole copies (v ∷ []) found = refl
held-whole copies (v ∷ x ∷ w) found = ap (λ (b : Bool). cond b (v ∷ x ∷ w) (held copies (x ∷ w))) found

module _ (copies : List (List ℕ)) (closed : (w : List ℕ) (e : ℕ) → 2 ≤ length w → has copies (w ++ e ∷ []) ≡ true → has copies w ≡ true) where
  -- a word without a copy has none when it grows
  pub grown : (v x : ℕ) (w : List ℕ) (e : ℕ) → has copies (v ∷ x ∷ w) ≡ false → has copies (v ∷ x ∷ (w ++ e ∷ [])) ≡ false
  grown v x w e lacks = elim (cases_Bool (has copies (v ∷ x ∷ (w ++ e ∷ [])))) [
    | inl found ↦
        let two : 2 ≤ length (v ∷ x ∷ w) = omega arith in
        let had : has copies (v ∷ x ∷ w) ≡ true = closed (v ∷ x ∷ w) e two found in
        cc
    | inr none ↦ none
  ]

  -- the next state is the state of the word with the next vertex
  pub held-push : (w : List ℕ) (e : ℕ) → held copies (held copies w ++ e ∷ []) ≡ held copies (w ++ e ∷ [])
  held-push [] e = refl
  held-push (v ∷ []) e = refl
  held-push (v ∷ x ∷ w) e = by (held-push (x ∷ w) e) (has copies (v ∷ x ∷ w)) refl
    where
      by : held copies (held copies (x ∷ w) ++ e ∷ []) ≡ held copies ((x ∷ w) ++ e ∷ []) → (b : Bool) → has copies (v ∷ x ∷ w) ≡ b → held copies (held copies (v ∷ x ∷ w) ++ e ∷ []) ≡ held copies ((v ∷ x ∷ w) ++ e ∷ [])
      by less true found = ap (λ (b : Bool). held copies (cond b (v ∷ x ∷ w) (held copies (x ∷ w)) ++ e ∷ [])) found
      by less false lacks =
          ap (λ (b : Bool). held copies (cond b (v ∷ x ∷ w) (held copies (x ∷ w)) ++ e ∷ [])) lacks
          ∙ less
          ∙ sym (ap (λ (b : Bool). cond b (v ∷ x ∷ (w ++ e ∷ [])) (held copies (x ∷ (w ++ e ∷ [])))) (grown v x w e lacks))

-- of a copy of three vertices or more, the word without the last has one
pub copies-closed : (sequences copies : List (List ℕ)) → AreCopies sequences copies → (w : List ℕ) (e : ℕ) → 2 ≤ length w → has copies (w ++ e ∷ []) ≡ true → has copies w ≡ true
copies-closed sequences copies are w e two found =
    let p = are.prefix (w ++ e ∷ []) (has-Contains copies (w ++ e ∷ []) found) in
    let is : p.1 ≡ w ++ e ∷ (p.2 ∷ p.3) = p.5 ∙ append_assoc w (e ∷ []) (p.2 ∷ p.3) in
    Contains-has copies w (are.all w (two, p.1, e, p.2 ∷ p.3, p.4, is))

module _ (sequences copies : List (List ℕ)) (are : AreCopies sequences copies) where
  -- a word without a copy is no sequence when it grows
  ended : (v x : ℕ) (w : List ℕ) (e : ℕ) → has copies (v ∷ x ∷ w) ≡ false → has sequences (v ∷ x ∷ (w ++ e ∷ [])) ≡ false
  ended v x w e lacks = elim (cases_Bool (has sequences (v ∷ x ∷ (w ++ e ∷ [])))) [
    | inl found ↦
        let two : 2 ≤ length (v ∷ x ∷ w) = omega arith in
        let had : has copies (v ∷ x ∷ w) ≡ true = Contains-has copies (v ∷ x ∷ w) (are.all (v ∷ x ∷ w)
        (two, v ∷ x ∷ (w ++ e ∷ []), e, [], has-Contains sequences (v ∷ x ∷ (w ++ e ∷ [])) found, refl)) in
        cc
    | inr none ↦ none
  ]

  -- and it ends in a sequence exactly where the walk does
  pub ends_in-push : (w : List ℕ) (e : ℕ) → ends_in sequences (held copies w ++ e ∷ []) ≡ ends_in sequences (w ++ e ∷ [])
  ends_in-push [] e = refl
  ends_in-push (v ∷ []) e = refl
  ends_in-push (v ∷ x ∷ w) e = by (ends_in-push (x ∷ w) e) (has copies (v ∷ x ∷ w)) refl
    where
      by : ends_in sequences (held copies (x ∷ w) ++ e ∷ []) ≡ ends_in sequences ((x ∷ w) ++ e ∷ []) → (b : Bool) → has copies (v ∷ x ∷ w) ≡ b → ends_in sequences (held copies (v ∷ x ∷ w) ++ e ∷ []) ≡ ends_in sequences ((v ∷ x ∷ w) ++ e ∷ [])
      by less true found = ap (λ (b : Bool). ends_in sequences (cond b (v ∷ x ∷ w) (held copies (x ∷ w)) ++ e ∷ [])) found
      by less false lacks =
          ap (λ (b : Bool). ends_in sequences (cond b (v ∷ x ∷ w) (held copies (x ∷ w)) ++ e ∷ [])) lacks
          ∙ less
          ∙ sym (ap (λ (b : Bool). b || ends_in sequences (x ∷ (w ++ e ∷ []))) (ended v x w e lacks))

-- the state stands at the walk's last vertex
pub held-last : (copies : List (List ℕ)) (w : List ℕ) → last_of (held copies w) ≡ last_of w
held-last copies [] = refl
held-last copies (v ∷ []) = refl
held-last copies (v ∷ x ∷ w) = by (held-last copies (x ∷ w)) (has copies (v ∷ x ∷ w)) refl
  where
    by : last_of (held copies (x ∷ w)) ≡ last_of (x ∷ w) → (b : Bool) → has copies (v ∷ x ∷ w) ≡ b → last_of (held copies (v ∷ x ∷ w)) ≡ last_of (x ∷ w)
    by less true found = ap (λ (b : Bool). last_of (cond b (v ∷ x ∷ w) (held copies (x ∷ w)))) found
    by less false lacks = ap (λ (b : Bool). last_of (cond b (v ∷ x ∷ w) (held copies (x ∷ w)))) lacks ∙ less
