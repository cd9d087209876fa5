-- What a row's values are while the blocks are apart: a new block changes those of no other row, and neither do offers along a row.
use Rattle.std.proofs.Common.{◌≡◌, ◌≢◌, ℕ, zero, suc, [], ◌∷◌, ◌+◌, ◌<◌, ◌≤◌, ◌⊎◌, inl, inr, Option, Some, None, List, ◌++◌, length, replicate, refl, sym, ◌∙◌, ap, subst, arith, length-append}
use Rattle.std.proofs.lemmas.Bool.{cases_eq, cases_lt}
use Rattle.std.proofs.lemmas.Bool.Decides.{nat_tests}
use Rattle.std.proofs.lemmas.List.{get_or_past, length-replicate, get_or-replicate}
use Rattle.std.proofs.lemmas.Option.{none-some}
use Rattle.search_graph.specs.Costs.{CostOps}
use Rattle.row_labels.specs.Rowed.{span_of, value_in, IsImproved, LowersRow}
use Rattle.row_labels.specs.Blocks.{AreApart, InSpan}
use Rattle.row_labels.specs.Lowered.{value_on, Lowers}
use Rattle.row_labels.specs.declared.blocks.Span.{Span}

-- two names are one, or not
same_row : (row other : ℕ × ℕ) → (row ≡ other) ⊎ (row ≢ other)
same_row row other = elim (cases_eq row.0 other.0) [
  | inl a ↦ elim (cases_eq row.1 other.1) [ inl b ↦ inl (λ i. (a i, b i)) | inr b ↦ inr (λ e. b (ap (λ (p : ℕ × ℕ). p.1) e)) ]
  | inr a ↦ inr (λ e. a (ap (λ (p : ℕ × ℕ). p.0) e))
]

module _ {C : Type 0} (values : List (Option C)) (span : Span) (j : ℕ) where
  -- a place of a span has the value that stands there
  pub value-there : j < span.count → value_in values span j ≡ value_on values (span.first + j)
  value-there lt = grind (arith, nat_tests)

  value-past : span.count ≤ j → value_in values span j ≡ None
  value-past le = grind (arith, nat_tests)

  -- a value is at a place of the span
  pub value-is : (d : C) → value_in values span j ≡ Some d → (j < span.count) × (value_on values (span.first + j) ≡ Some d)
  value-is d v = elim (cases_lt j span.count) [
    | inl lt ↦ (lt, sym (value-there lt) ∙ v)
    | inr le ↦ absurd (none-some d (sym (value-past le) ∙ v))
  ]

-- places that come have no value
value_on-more : {C : Type 0} (values : List (Option C)) (n i : ℕ) → value_on (values ++ replicate n None) i ≡ value_on values i
value_on-more {C} [] n i = elim (cases_lt i n) [ inl lt ↦ get_or-replicate n i None None lt | inr le ↦ get_or_past (replicate n None) i None (let long = length-replicate {A = Option C} n None in omega (arith, long, le)) ]
value_on-more (x ∷ values) n zero = refl
value_on-more (x ∷ values) n (suc i) = value_on-more values n i

-- the row of a name gets a block behind all others
module _ {C : Type 0} (old new : List (List Span)) (name : ℕ × ℕ) (span : Span) (values more : List (Option C)) (here : span_of new name ≡ span)
    (others : (row : ℕ × ℕ) → row ≢ name → span_of new row ≡ span_of old row) (behind : span.first ≡ length values) (grown : more ≡ values ++ replicate span.count None) where
  long : length more ≡ length values + span.count
  long = ap length grown ∙ length-append values (replicate span.count None) ∙ ap (λ (n : ℕ). length values + n) (length-replicate span.count None)

  here_is : (row : ℕ × ℕ) → row ≡ name → span_of new row ≡ span
  here_is row e = ap (span_of new) e ∙ here

  pub AreApart-appended : AreApart old (length values) → AreApart new (length more)
  AreApart-appended h = record {
    within = λ row. elim (same_row row name) [
      | inl e ↦ subst (λ (s : Span). s.first + s.count ≤ length more) (sym (here_is row e)) (omega (arith, behind, long))
      | inr e ↦ subst (λ (s : Span). s.first + s.count ≤ length more) (sym (others row e)) (let le = h.within row in omega (arith, le, long))
    ];
    apart = λ row other i a b. elim (same_row row name) [
      | inl e ↦
          let in_new : InSpan span i = subst (λ (s : Span). InSpan s i) (here_is row e) a in
          elim (same_row other name) [
            | inl f ↦ e ∙ sym f
            | inr f ↦
                let in_old : InSpan (span_of old other) i = subst (λ (s : Span). InSpan s i) (others other f) b in
                let le = h.within other in
                absurd (omega (arith, in_new.0, in_old.1, le, behind))
          ]
      | inr e ↦
          let in_old : InSpan (span_of old row) i = subst (λ (s : Span). InSpan s i) (others row e) a in
          elim (same_row other name) [
            | inl f ↦
                let in_new : InSpan span i = subst (λ (s : Span). InSpan s i) (here_is other f) b in
                let le = h.within row in
                absurd (omega (arith, in_new.0, in_old.1, le, behind))
            | inr f ↦ h.apart row other i in_old (subst (λ (s : Span). InSpan s i) (others other f) b)
          ]
    ];
  }

  pub kept-appended : (row : ℕ × ℕ) (j : ℕ) (d : C) → value_in more (span_of new row) j ≡ Some d → value_in values (span_of old row) j ≡ Some d
  kept-appended row j d v = elim (same_row row name) [
    | inl e ↦
        let at = value-is more span j d (subst (λ (s : Span). value_in more s j ≡ Some d) (here_is row e) v) in
        let past : value_on values (span.first + j) ≡ None = get_or_past values (span.first + j) None (omega (arith, behind)) in
        absurd (none-some d (sym past ∙ sym (value_on-more values span.count (span.first + j)) ∙ ap (λ (xs : List (Option C)). value_on xs (span.first + j)) (sym grown) ∙ at.1))
    | inr e ↦
        let s = span_of old row in
        let at = value-is more s j d (subst (λ (x : Span). value_in more x j ≡ Some d) (others row e) v) in
        value-there values s j at.0 ∙ sym (value_on-more values span.count (s.first + j)) ∙ ap (λ (xs : List (Option C)). value_on xs (s.first + j)) (sym grown) ∙ at.1
  ]

-- a list with more behind it is no shorter
pub no_shorter : {X : Type 0} (values more new : List X) → new ≡ values ++ more → length values ≤ length new
no_shorter values more new e = subst (λ (xs : List _). length values ≤ length xs) (sym e) (omega (arith, length-append values more))

-- spans that stay are apart among no fewer places
pub AreApart-same : (old new : List (List Span)) (places more : ℕ) → ((row : ℕ × ℕ) → span_of new row ≡ span_of old row) → places ≤ more → AreApart old places → AreApart new more
AreApart-same old new places more same le h = record {
  within = λ row. subst (λ (s : Span). s.first + s.count ≤ more) (sym (same row)) (let lt = h.within row in omega (arith, lt, le));
  apart = λ row other i a b. h.apart row other i (subst (λ (s : Span). InSpan s i) (same row) a) (subst (λ (s : Span). InSpan s i) (same other) b);
}

-- offers along the block of a row: what is kept of the others stays
pub LowersRow-from : {C : Type 0} (ops : CostOps C) (spans : List (List Span)) (values new : List (Option C)) (name : ℕ × ℕ) (paid : C) (costs : List (Option C)) (count : ℕ) (improved : List ℕ) (old : ℕ × ℕ → ℕ → Option C) →
    AreApart spans (length values) → count ≤ (span_of spans name).count → ((row : ℕ × ℕ) (j : ℕ) (d : C) → value_in values (span_of spans row) j ≡ Some d → old row j ≡ Some d) →
    Lowers ops (span_of spans name).first values new paid costs count improved → LowersRow ops old (λ row j. value_in new (span_of spans row) j) name paid costs count improved
LowersRow-from {C} ops spans values new name paid costs count improved old apart room same h = record {
  kept = λ row j d v.
      let s = span_of spans row in
      let at = value-is new s j d v in
      elim (h.kept (s.first + j) d at.1) [
        | inl o ↦ inl (same row j d (value-there values s j at.0 ∙ o))
        | inr k ↦
            let below : k.0 < count = h.within k.0 k.2.0 in
            let mine : InSpan s (s.first + j) = (omega arith, omega (arith, at.0)) in
            let is = k.1 in
            let its : InSpan (span_of spans name) (s.first + j) = (omega (arith, is), omega (arith, is, below, room)) in
            let row_is : row ≡ name = apart.apart row name (s.first + j) mine its in
            let first_is : s.first ≡ (span_of spans name).first = ap (λ (r : ℕ × ℕ). (span_of spans r).first) row_is in
            let place_is : k.0 ≡ j = omega (arith, is, first_is) in
            inr (row_is, subst (λ (x : ℕ). IsImproved ops paid costs improved x d) place_is k.2)
      ];
  found = λ j s lt e. elim (h.found j s lt e) [
    | inl i ↦ inl i
    | inr f ↦ inr (f.0, value-there new (span_of spans name) j (omega (arith, lt, room)) ∙ f.1, f.2)
  ];
  within = h.within;
}
