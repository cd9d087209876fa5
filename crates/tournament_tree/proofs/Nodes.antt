-- The words of a tree, and what it does to them to lower or raise a leaf.
use Rattle.std.proofs.Common.{◌≡◌, ◌≢◌, ℕ, zero, suc, ◌+◌, ◌-◌, ◌/◌, ◌<◌, ◌≤◌, ◌⊎◌, inl, inr, List, ◌++◌, Some, drop, take, get_or, length, length-drop, length-set, set, sym, ◌∙◌, ap, subst, arith}
use Rattle.std.specs.List.{slice_get}
use Rattle.std.proofs.Math.Seq.{take-append_seam}
use Rattle.std.proofs.lemmas.Bool.{cases_lt}
use Rattle.std.proofs.lemmas.Option.{get_or_from_slice_get, slice_get-get_or, slice_get_within}
use Rattle.std.proofs.lemmas.List.{get_or-drop, get_or-set_other, get_or-set_same}
use Rattle.tournament_tree.specs.Nodes.{AreNodes, AreNodesBelow, AreNodesBut, IsLesser, IsNode}

-- a list of as many words is not cut
pub whole : (n : ℕ) (ws xs : List ℕ) → length ws ≡ n → take n (ws ++ xs) ≡ ws
whole n ws xs e = subst (λ (m : ℕ). take m (ws ++ xs) ≡ ws) e (take-append_seam ws xs)

-- a place is one of the two below its half
pub halves : (i : ℕ) → (i ≡ i / 2 + i / 2) ⊎ (i ≡ 1 + (i / 2 + i / 2))
halves i = elim (cases_lt (i / 2 + i / 2) i) [ inl lt ↦ inr (omega (arith, lt)) | inr ge ↦ inl (omega (arith, ge)) ]

same_or_apart : (i j : ℕ) → (i ≡ j) ⊎ (i ≢ j)
same_or_apart i j = elim (cases_lt i j) [
  | inl lt ↦ inr (λ e. omega (arith, lt, e))
  | inr ge ↦ elim (cases_lt j i) [ inl lt ↦ inr (λ e. omega (arith, lt, e)) | inr le ↦ inl (omega (arith, ge, le)) ]
]

lesser_same : (n a b m c d : ℕ) → m ≡ n → c ≡ a → d ≡ b → IsLesser n a b → IsLesser m c d
lesser_same n a b m c d p q r h =
    let left = h.0 in
    let right = h.1 in
    (omega (arith, p, q, left), omega (arith, p, r, right), elim h.2 [ inl e ↦ inl (omega (arith, p, q, e)) | inr e ↦ inr (omega (arith, p, r, e)) ])

module _ (words : List ℕ) (count : ℕ) (nodes : AreNodes words count) where
  -- the word at 1 is the least
  pub first_least : (fuel i : ℕ) → i < fuel → 0 < i → i < count + count → get_or words 1 0 ≤ get_or words i 0
  first_least zero i f p lt = absurd (omega (arith, f))
  first_least (suc fuel) i f p lt = elim (cases_lt 1 i) [
    | inl more ↦
        let node : IsNode words (i / 2) = nodes.each (i / 2) (omega (arith, more)) (omega (arith, lt)) in
        let up : get_or words 1 0 ≤ get_or words (i / 2) 0 = first_least fuel (i / 2) (omega (arith, f, more)) (omega (arith, more)) (omega (arith, lt)) in
        let down : get_or words (i / 2) 0 ≤ get_or words i 0 = elim (halves i) [
          | inl e ↦ subst (λ (n : ℕ). get_or words (i / 2) 0 ≤ get_or words n 0) (sym e) node.0
          | inr e ↦ subst (λ (n : ℕ). get_or words (i / 2) 0 ≤ get_or words n 0) (sym e) node.1
        ] in
        omega (arith, up, down)
    | inr le ↦
        let one : 1 ≡ i = omega (arith, le, p) in
        subst (λ (n : ℕ). get_or words 1 0 ≤ get_or words n 0) one (omega arith)
  ]

  -- so it is no greater than any leaf
  pub leaf_least : (v d : ℕ) → slice_get (drop count words) v ≡ Some d → get_or words 1 0 ≤ d
  leaf_least v d e =
      let within : v < length (drop count words) = slice_get_within (drop count words) v d e in
      let size = nodes.size in
      let at : get_or words (count + v) 0 ≡ d = sym (get_or-drop count words v 0) ∙ get_or_from_slice_get (drop count words) v d 0 e in
      let long : v < count = omega (arith, size, within, length-drop count words) in
      let least = first_least (suc (count + v)) (count + v) (omega arith) (omega (arith, long)) (omega (arith, long)) in
      omega (arith, at, least)

  -- a place behind the inner ones is a leaf's
  leaf_at : (i : ℕ) → count ≤ i → i < count + count → (v : ℕ) × (slice_get (drop count words) v ≡ Some (get_or words i 0))
  leaf_at i ge lt =
      let size = nodes.size in
      let there : count + (i - count) ≡ i = omega (arith, ge) in
      let within : i - count < length (drop count words) = omega (arith, size, length-drop count words, ge, lt) in
      (i - count, slice_get-get_or (drop count words) (i - count) 0 within ∙ ap Some (get_or-drop count words (i - count) 0 ∙ ap (λ (n : ℕ). get_or words n 0) there))

  -- a leaf's word is its key
  pub leaf_there : (v : ℕ) → v < count → slice_get (drop count words) v ≡ Some (get_or words (count + v) 0)
  leaf_there v lt =
      let size = nodes.size in
      slice_get-get_or (drop count words) v 0 (omega (arith, size, length-drop count words, lt)) ∙ ap Some (get_or-drop count words v 0)

  -- and each word is that of a leaf
  pub some_leaf : (fuel i : ℕ) → count ≤ i + fuel → 0 < i → i < count + count → (v : ℕ) × (slice_get (drop count words) v ≡ Some (get_or words i 0))
  some_leaf zero i f p lt = leaf_at i (omega (arith, f)) lt
  some_leaf (suc fuel) i f p lt = elim (cases_lt i count) [
    | inl inner ↦ elim (nodes.each i p inner).2 [
      | inl e ↦ let l = some_leaf fuel (i + i) (omega (arith, f, p)) (omega (arith, p)) (omega (arith, inner)) in (l.0, l.1 ∙ ap Some (sym e))
      | inr e ↦ let l = some_leaf fuel (1 + (i + i)) (omega (arith, f, p)) (omega arith) (omega (arith, inner)) in (l.0, l.1 ∙ ap Some (sym e))
    ]
    | inr leaf ↦ leaf_at i leaf lt
  ]

-- what stands at 1 is what a leaf has that is no greater than any
pub first_is : (words : List ℕ) (count : ℕ) → AreNodes words count → (k : ℕ) → (v : ℕ) → slice_get (drop count words) v ≡ Some k → ((w d : ℕ) → slice_get (drop count words) w ≡ Some d → k ≤ d) → get_or words 1 0 ≡ k
first_is words count nodes k v there least =
    let size = nodes.size in
    let within : v < length (drop count words) = slice_get_within (drop count words) v k there in
    let some : 0 < count = omega (arith, size, within, length-drop count words) in
    let leaf = some_leaf words count nodes count 1 (omega arith) (omega arith) (omega (arith, some)) in
    let one : get_or words 1 0 ≤ k = leaf_least words count nodes v k there in
    let other : k ≤ get_or words 1 0 = least leaf.0 (get_or words 1 0) leaf.1 in
    omega (arith, one, other)

module _ (words : List ℕ) (count at key : ℕ) (some : 0 < at) (inner : at < count) where
  -- a word that is greater than key becomes it
  pub below_lowered : AreNodesBelow words count at key → key < get_or words at 0 → AreNodesBelow (set words at key) count (at / 2) key
  below_lowered h less =
      let new : List ℕ = set words at key in
      let size = h.but.size in
      let here : get_or new at 0 ≡ key = get_or-set_same words at key 0 (omega (arith, size, inner)) in
      let other : (j : ℕ) → j ≢ at → get_or new j 0 ≡ get_or words j 0 = λ j apart. get_or-set_other words at j key 0 apart in
      record {
        but = record {
          size = length-set words at key ∙ size;
          each = λ i p lt apart. elim (same_or_apart i at) [
            | inl e ↦
                let left = other (at + at) (λ x. omega (arith, x, some)) in
                let right = other (1 + (at + at)) (λ x. omega (arith, x, some)) in
                subst (IsNode new) (sym e) (lesser_same key (get_or words (at + at) 0) (get_or words (1 + (at + at)) 0) (get_or new at 0) (get_or new (at + at) 0) (get_or new (1 + (at + at)) 0) here left right ((h.below some inner).0 (omega (arith, less))))
            | inr n ↦ lesser_same (get_or words i 0) (get_or words (i + i) 0) (get_or words (1 + (i + i)) 0) (get_or new i 0) (get_or new (i + i) 0) (get_or new (1 + (i + i)) 0)
                (other i n) (other (i + i) (λ x. apart (omega (arith, x)))) (other (1 + (i + i)) (λ x. apart (omega (arith, x)))) (h.but.each i p lt n)
          ];
        };
        below = λ p lt.
            let up : ℕ = at / 2 in
            let apart : up ≢ at = λ x. omega (arith, x, some) in
            let node : IsNode words up = h.but.each up p lt apart in
            let same : get_or new up 0 ≡ get_or words up 0 = other up apart in
            elim (halves at) [
              | inl e ↦
                  let left : get_or new (up + up) 0 ≡ key = subst (λ (n : ℕ). get_or new n 0 ≡ key) e here in
                  let was : key < get_or words (up + up) 0 = subst (λ (n : ℕ). key < get_or words n 0) e less in
                  let right : get_or new (1 + (up + up)) 0 ≡ get_or words (1 + (up + up)) 0 = other (1 + (up + up)) (λ x. omega (arith, x, e)) in
                  let right_up = node.1 in (
                    λ le. (omega (arith, left), omega (arith, le, same, right, right_up), inl (sym left)),
                    λ le. (omega (arith, le, left), omega (arith, same, right, right_up), elim node.2 [ inl x ↦ absurd (omega (arith, x, same, le, was)) | inr x ↦ inr (same ∙ x ∙ sym right) ]),
                  )
              | inr e ↦
                  let right : get_or new (1 + (up + up)) 0 ≡ key = subst (λ (n : ℕ). get_or new n 0 ≡ key) e here in
                  let was : key < get_or words (1 + (up + up)) 0 = subst (λ (n : ℕ). key < get_or words n 0) e less in
                  let left : get_or new (up + up) 0 ≡ get_or words (up + up) 0 = other (up + up) (λ x. omega (arith, x, e)) in
                  let left_up = node.0 in (
                    λ le. (omega (arith, le, same, left, left_up), omega (arith, right), inr (sym right)),
                    λ le. (omega (arith, same, left, left_up), omega (arith, le, right), elim node.2 [ inl x ↦ inl (same ∙ x ∙ sym left) | inr x ↦ absurd (omega (arith, x, same, le, was)) ]),
                  )
            ];
      }

  -- a word above a raised one becomes the lesser of the two below it
  pub but_raised : AreNodesBut words count at → IsLesser key (get_or words (at + at) 0) (get_or words (1 + (at + at)) 0) → AreNodesBut (set words at key) count (at / 2)
  but_raised h lesser =
      let new : List ℕ = set words at key in
      let size = h.size in
      let here : get_or new at 0 ≡ key = get_or-set_same words at key 0 (omega (arith, size, inner)) in
      let other : (j : ℕ) → j ≢ at → get_or new j 0 ≡ get_or words j 0 = λ j apart. get_or-set_other words at j key 0 apart in
      record {
        size = length-set words at key ∙ size;
        each = λ i p lt apart. elim (same_or_apart i at) [
          | inl e ↦
              let left = other (at + at) (λ x. omega (arith, x, some)) in
              let right = other (1 + (at + at)) (λ x. omega (arith, x, some)) in
              subst (IsNode new) (sym e) (lesser_same key (get_or words (at + at) 0) (get_or words (1 + (at + at)) 0) (get_or new at 0) (get_or new (at + at) 0) (get_or new (1 + (at + at)) 0) here left right lesser)
          | inr n ↦ lesser_same (get_or words i 0) (get_or words (i + i) 0) (get_or words (1 + (i + i)) 0) (get_or new i 0) (get_or new (i + i) 0) (get_or new (1 + (i + i)) 0)
              (other i n) (other (i + i) (λ x. apart (omega (arith, x)))) (other (1 + (i + i)) (λ x. apart (omega (arith, x)))) (h.each i p lt n)
        ];
      }

-- where the word at the place is right too, all are
pub nodes_all : (words : List ℕ) (count at : ℕ) → AreNodesBut words count at → (0 < at → at < count → IsNode words at) → AreNodes words count
nodes_all words count at h here = record {
  size = h.size;
  each = λ i p lt. elim (same_or_apart i at) [
    | inl e ↦ subst (IsNode words) (sym e) (here (subst (λ (n : ℕ). 0 < n) e p) (subst (λ (n : ℕ). n < count) e lt))
    | inr n ↦ h.each i p lt n
  ];
}
