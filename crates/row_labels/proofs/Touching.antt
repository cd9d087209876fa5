-- One row gets a span, and its name is among the touched ones.
use Rattle.std.proofs.Common.{◌≡◌, ◌≢◌, ℕ, ◌<◌, inl, inr, List, [], ◌∷◌, ◌++◌, length, get_or, sym, ◌∙◌, ap, subst, get_or-set_same, get_or-set_other}
use Rattle.std.proofs.Math.ListN.{set}
use Rattle.std.proofs.lemmas.Bool.{cases_eq}
use Rattle.std.proofs.lemmas.List.{get_or_default}
use Rattle.std.specs.List.{Contains}
use Rattle.list_lemmas.proofs.Gets.{Contains_get, Contains_push, get_pushed}
use Rattle.row_labels.specs.Rowed.{spans_of, span_on, span_of}
use Rattle.row_labels.specs.Blocks.{AreTouched}
use Rattle.row_labels.specs.declared.blocks.Span.{Span}

-- more names are touched
pub AreTouched-more : (old new : List (List Span)) (before after : List (ℕ × ℕ)) (name : ℕ × ℕ) → ((l : ℕ) → spans_of new l ≡ spans_of old l) → after ≡ before ++ name ∷ [] → AreTouched old before → AreTouched new after
AreTouched-more old new before after name same grows h = subst (λ (xs : List (ℕ × ℕ)). AreTouched new xs) (sym grows) (record {
  each = λ l n. elim (h.each l n) [ inl none ↦ inl (ap (λ (xs : List Span). span_on xs n) (same l) ∙ none) | inr c ↦ inr (Contains_push before name (l, n) c) ];
})

-- the spans of level l change
module _ (levels : List (List Span)) (l : ℕ) (level new : List Span) (there : l < length levels) (is : level ≡ get_or levels l level) where
  level_is : level ≡ spans_of levels l
  level_is = is ∙ sym (get_or_default levels l [] level there)

  span-level : (a n : ℕ) → a ≡ l → span_of (set levels l new) (a, n) ≡ span_on new n
  span-level a n e = ap (λ (k : ℕ). span_of (set levels l new) (k, n)) e ∙ ap (λ (xs : List Span). span_on xs n) (get_or-set_same levels l new [] there)

  span-there : (a n : ℕ) → (a ≡ l → ⊥) → span_of (set levels l new) (a, n) ≡ span_of levels (a, n)
  span-there a n other = ap (λ (xs : List Span). span_on xs n) (get_or-set_other levels l a new [] other)

  span-kept : (a n : ℕ) → a ≡ l → span_on new n ≡ span_on level n → span_of (set levels l new) (a, n) ≡ span_of levels (a, n)
  span-kept a n e k = span-level a n e ∙ k ∙ ap (λ (xs : List Span). span_on xs n) level_is ∙ ap (λ (m : ℕ). span_of levels (m, n)) (sym e)

  -- at row n alone, which is touched
  pub AreTouched-put : (n : ℕ) (touched : List (ℕ × ℕ)) → Contains touched (l, n) → ((m : ℕ) → m ≢ n → span_on new m ≡ span_on level m) → AreTouched levels touched → AreTouched (set levels l new) touched
  AreTouched-put n touched has others h = record {
    each = λ a m. elim (cases_eq a l) [
      | inl e ↦ elim (cases_eq m n) [
        | inl f ↦ inr (subst (λ (p : ℕ × ℕ). Contains touched p) (sym (λ i. (e i, f i))) has)
        | inr f ↦ elim (h.each a m) [ inl none ↦ inl (span-kept a m e (others m f) ∙ none) | inr c ↦ inr c ]
      ]
      | inr e ↦ elim (h.each a m) [ inl none ↦ inl (span-there a m e ∙ none) | inr c ↦ inr c ]
    ];
  }

pub last_in : {X : Type 0} (xs after : List X) (x : X) → after ≡ xs ++ x ∷ [] → Contains after x
last_in xs after x e = subst (λ (ys : List _). Contains ys x) (sym e) (Contains_get (xs ++ x ∷ []) (length xs) x (get_pushed xs x))
