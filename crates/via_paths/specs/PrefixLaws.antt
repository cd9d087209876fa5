-- The words of all copies are the proper prefixes of two vertices or more, each once: layer by layer.
use Rattle.std.proofs.Common.{◌≡◌, ℕ, zero, suc, ◌+◌, ◌<◌, ◌≤◌, ◌⊎◌, inl, inr, Bool, true, false, cond, List, [], ◌∷◌, ◌++◌, Some, take, drop, length, get_or, arith, refl, sym, ◌∙◌, ap, subst, length-append}
use Rattle.std.specs.List.{slice_get, Contains}
use Rattle.std.proofs.lemmas.Bool.{cases_lt, le-ltb, lt-ltb}
use Rattle.std.proofs.lemmas.List.{take-append-drop, drop_more, length-take-le, take_at}
use Rattle.list_lemmas.proofs.Gets.{Contains_get, get_push}
use Rattle.via_paths.specs.Forbidden.{IsProperPrefix, has}
use Rattle.via_paths.specs.Copies.{with_new, with_prefix, layer, layers, longest, copies_of}
use Rattle.via_paths.specs.Expansion.{AreCopies}
use Rattle.via_paths.specs.WordLaws.{has-Contains, Contains-has, Contains-cons, Contains-here, Contains-there, has-old, has-new, has-either}

-- the prefix of a sequence that is longer, and that of one that is not
pub prefix-longer : (k : ℕ) (copies : List (List ℕ)) (s : List ℕ) → k < length s → with_prefix k copies s ≡ with_new copies (take k s)
prefix-longer k copies s lt = ap (λ (b : Bool). cond b (with_new copies (take k s)) copies) (lt-ltb k (length s) lt)

pub prefix-shorter : (k : ℕ) (copies : List (List ℕ)) (s : List ℕ) → length s ≤ k → with_prefix k copies s ≡ copies
prefix-shorter k copies s le = ap (λ (b : Bool). cond b (with_new copies (take k s)) copies) (le-ltb k (length s) le)

pub longest-all : (sequences : List (List ℕ)) (s : List ℕ) → Contains sequences s → length s ≤ longest sequences
longest-all [] s h = absurd (omega (arith, h.1))
longest-all (x ∷ sequences) s h = elim (Contains-cons x s sequences h) [
  | inl is ↦ let len : length s ≡ length x = ap length is in omega arith
  | inr more ↦ let le : length s ≤ longest sequences = longest-all sequences s more in omega arith
]

-- each word is a proper prefix
abbrev AreAllPrefixes : List (List ℕ) → List (List ℕ) → Type 0
AreAllPrefixes sequences copies = (p : List ℕ) → Contains copies p → IsProperPrefix sequences p

-- each comes once
abbrev ComeOnce : List (List ℕ) → Type 0
ComeOnce copies = (i j : ℕ) (p : List ℕ) → slice_get copies i ≡ Some p → slice_get copies j ≡ Some p → i ≡ j

module _ (copies : List (List ℕ)) where
  new-once : (p : List ℕ) → ComeOnce copies → ComeOnce (with_new copies p)
  new-once p once = by (has copies p) refl
    where
      by : (b : Bool) → has copies p ≡ b → ComeOnce (with_new copies p)
      by true found = subst (λ (b : Bool). ComeOnce (cond b copies (copies ++ p ∷ []))) (sym found) once
      by false lacks = subst (λ (b : Bool). ComeOnce (cond b copies (copies ++ p ∷ []))) (sym lacks) (λ i j r gi gj. elim (get_push copies p i r gi) [
        | inl old ↦ elim (get_push copies p j r gj) [
          | inl too ↦ once i j r old too
          | inr new ↦ let both : true ≡ false = sym (Contains-has copies r (Contains_get copies i r old)) ∙ ap (has copies) new.1 ∙ lacks in absurd (cc)
        ]
        | inr new ↦ elim (get_push copies p j r gj) [
          | inl old ↦ let both : true ≡ false = sym (Contains-has copies r (Contains_get copies j r old)) ∙ ap (has copies) new.1 ∙ lacks in absurd (cc)
          | inr too ↦ new.0 ∙ sym too.0
        ]
      ])

  pub new-has : (p : List ℕ) → has (with_new copies p) p ≡ true
  new-has p = by (has copies p) refl
    where
      by : (b : Bool) → has copies p ≡ b → has (with_new copies p) p ≡ true
      by true found = ap (λ (b : Bool). has (cond b copies (copies ++ p ∷ [])) p) found ∙ found
      by false lacks = ap (λ (b : Bool). has (cond b copies (copies ++ p ∷ [])) p) lacks ∙ has-new copies p

  new-keeps : (p r : List ℕ) → has copies r ≡ true → has (with_new copies p) r ≡ true
  new-keeps p r h = by (has copies p)
    where
      by : (b : Bool) → has (cond b copies (copies ++ p ∷ [])) r ≡ true
      by true = h
      by false = has-old copies p r h

  new-from : (p r : List ℕ) → has (with_new copies p) r ≡ true → (has copies r ≡ true) ⊎ (r ≡ p)
  new-from p r h = by (has copies p) h
    where
      by : (b : Bool) → has (cond b copies (copies ++ p ∷ [])) r ≡ true → (has copies r ≡ true) ⊎ (r ≡ p)
      by true h = inl h
      by false h = has-either copies p r h

  -- a word is among these with the prefix of length k of s where it was, or is that prefix
  prefix-from : (k : ℕ) (s r : List ℕ) → has (with_prefix k copies s) r ≡ true → (has copies r ≡ true) ⊎ ((k < length s) × (r ≡ take k s))
  prefix-from k s r h = elim (cases_lt k (length s)) [
    | inl lt ↦ elim (new-from (take k s) r (subst (λ (c : List (List ℕ)). has c r ≡ true) (prefix-longer k copies s lt) h)) [ inl old ↦ inl old | inr new ↦ inr (lt, new) ]
    | inr ge ↦ inl (subst (λ (c : List (List ℕ)). has c r ≡ true) (prefix-shorter k copies s ge) h)
  ]

  prefix-keeps : (k : ℕ) (s r : List ℕ) → has copies r ≡ true → has (with_prefix k copies s) r ≡ true
  prefix-keeps k s r h = elim (cases_lt k (length s)) [
    | inl lt ↦ subst (λ (c : List (List ℕ)). has c r ≡ true) (sym (prefix-longer k copies s lt)) (new-keeps (take k s) r h)
    | inr ge ↦ subst (λ (c : List (List ℕ)). has c r ≡ true) (sym (prefix-shorter k copies s ge)) h
  ]

  prefix-has : (k : ℕ) (s : List ℕ) → k < length s → has (with_prefix k copies s) (take k s) ≡ true
  prefix-has k s lt = subst (λ (c : List (List ℕ)). has c (take k s) ≡ true) (sym (prefix-longer k copies s lt)) (new-has (take k s))

  prefix-once : (k : ℕ) (s : List ℕ) → ComeOnce copies → ComeOnce (with_prefix k copies s)
  prefix-once k s once = elim (cases_lt k (length s)) [
    | inl lt ↦ subst ComeOnce (sym (prefix-longer k copies s lt)) (new-once (take k s) once)
    | inr ge ↦ subst ComeOnce (sym (prefix-shorter k copies s ge)) once
  ]

layer-from : (k : ℕ) (copies sequences : List (List ℕ)) (r : List ℕ) → has (layer k copies sequences) r ≡ true →
    (has copies r ≡ true) ⊎ ((s : List ℕ) × Contains sequences s × (k < length s) × (r ≡ take k s))
layer-from k copies [] r h = inl h
layer-from k copies (s ∷ sequences) r h = elim (layer-from k (with_prefix k copies s) sequences r h) [
  | inl here ↦ elim (prefix-from copies k s r here) [
    | inl old ↦ inl old
    | inr new ↦ inr (s, Contains-here s sequences, new.0, new.1)
  ]
  | inr later ↦ inr (later.0, Contains-there s later.0 sequences later.1, later.2, later.3)
]

layer-keeps : (k : ℕ) (copies sequences : List (List ℕ)) (r : List ℕ) → has copies r ≡ true → has (layer k copies sequences) r ≡ true
layer-keeps k copies [] r h = h
layer-keeps k copies (s ∷ sequences) r h = layer-keeps k (with_prefix k copies s) sequences r (prefix-keeps copies k s r h)

layer-has : (k : ℕ) (copies sequences : List (List ℕ)) (s : List ℕ) → Contains sequences s → k < length s → has (layer k copies sequences) (take k s) ≡ true
layer-has k copies [] s h lt = absurd (omega (arith, h.1))
layer-has k copies (x ∷ sequences) s h lt = elim (Contains-cons x s sequences h) [
  | inl is ↦ layer-keeps k (with_prefix k copies x) sequences (take k s) (subst (λ (z : List ℕ). has (with_prefix k copies z) (take k s) ≡ true) is (prefix-has copies k s lt))
  | inr more ↦ layer-has k (with_prefix k copies x) sequences s more lt
]

layer-once : (k : ℕ) (copies sequences : List (List ℕ)) → ComeOnce copies → ComeOnce (layer k copies sequences)
layer-once k copies [] once = once
layer-once k copies (s ∷ sequences) once = layer-once k (with_prefix k copies s) sequences (prefix-once copies k s once)

-- a word of the first layers is a prefix of two vertices or more
layers-from : (m : ℕ) (sequences : List (List ℕ)) (r : List ℕ) → has (layers m sequences) r ≡ true →
    (k : ℕ) × (s : List ℕ) × (2 ≤ k) × Contains sequences s × (k < length s) × (r ≡ take k s)
layers-from zero sequences r h = absurd (cc)
layers-from (suc m) sequences r h = elim (layer-from (m + 2) (layers m sequences) sequences r h) [
  | inl old ↦ layers-from m sequences r old
  | inr new ↦ (m + 2, new.0, omega arith, new.1, new.2, new.3)
]

-- each prefix of k vertices is in the layer of k and in all later ones
layers-has : (m k : ℕ) (sequences : List (List ℕ)) (s : List ℕ) → 2 ≤ k → k < m + 2 → Contains sequences s → k < length s → has (layers m sequences) (take k s) ≡ true
layers-has zero k sequences s two lt h long = absurd (omega arith)
layers-has (suc m) k sequences s two lt h long = elim (cases_lt k (m + 2)) [
  | inl lower ↦ layer-keeps (m + 2) (layers m sequences) sequences (take k s) (layers-has m k sequences s two lower h long)
  | inr ge ↦
      let is : m + 2 ≡ k = omega arith in
      subst (λ (j : ℕ). has (layer (m + 2) (layers m sequences) sequences) (take j s) ≡ true) is (layer-has (m + 2) (layers m sequences) sequences s h (omega arith))
]

layers-once : (m : ℕ) (sequences : List (List ℕ)) → ComeOnce (layers m sequences)
layers-once zero sequences = λ i j p gi gj. absurd (cc)
layers-once (suc m) sequences = layer-once (m + 2) (layers m sequences) sequences (layers-once m sequences)

-- the words of all layers are those that have a copy
pub copies_of-are : (sequences : List (List ℕ)) → AreCopies sequences (copies_of sequences)
copies_of-are sequences = record {
  prefix = λ p h.
      let r = layers-from (longest sequences) sequences p (Contains-has (copies_of sequences) p h) in
      let k : ℕ = r.0 in
      let s : List ℕ = r.1 in
      let lt : k < length s = r.4 in
      let le : k ≤ length s = omega arith in
      let len : length (take k s) ≡ k = length-take-le k s le in
      let two : 2 ≤ length (take k s) = omega (arith, r.2) in
      subst (IsProperPrefix sequences) (sym r.5) (two, s, get_or s k 0, drop (k + 1) s, r.3, sym (take-append-drop k s) ∙ ap (λ (l : List ℕ). take k s ++ l) (drop_more s k 0 lt));
  all = λ p h.
      let s : List ℕ = h.1 in
      let k : ℕ = length p in
      let is : take k s ≡ p = ap (take k) h.5 ∙ take_at p (h.2 ∷ h.3) k refl in
      let most : length s ≤ longest sequences = longest-all sequences s h.4 in
      let len : length s ≡ length p + length (h.2 ∷ h.3) = ap length h.5 ∙ length-append p (h.2 ∷ h.3) in
      let lt : k < length s = omega arith in
      let below : k < longest sequences + 2 = omega arith in
      has-Contains (copies_of sequences) p (subst (λ (z : List ℕ). has (copies_of sequences) z ≡ true) is (layers-has (longest sequences) k sequences s h.0 below h.4 lt));
  once = layers-once (longest sequences) sequences;
}
