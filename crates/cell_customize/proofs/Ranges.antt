-- What a range of numbers has, and the space of one's own numbers as its steps read it.
use Rattle.std.proofs.Common.{◌≡◌, ℕ, ◌+◌, ◌-◌, ◌<◌, ◌≤◌, Bool, true, false, Some, List, length, sym, ◌∙◌, ap, subst, arith}
use Rattle.std.specs.Bool.{OnTrue, OnFalse}
use Rattle.std.specs.List.{Contains, slice_get, slice_range, range_with_len}
use Rattle.std.proofs.lemmas.Option.{same_Some, slice_get_within, get_or_from_slice_get}
use Rattle.std.proofs.lemmas.List.FromFn.{length-range_with_len, get_or-range_with_len}
use Rattle.list_lemmas.proofs.Gets.{get_is, get_some, get_Contains, Contains_get}
use Rattle.step_search.specs.Spaces.{Space}
use Rattle.step_search.specs.declared.hops.Hop.{Hop}
use Rattle.cell_customize.specs.declared.local.Span.{Span}
use Rattle.cell_customize.specs.Local.{IsHopOf, HasPlaces, IsLocal, row_in}

-- the numbers from a up to b
pub range_within : (a b i : ℕ) → a ≤ b → Contains (range_with_len a (b - a)) i → (a ≤ i) × (i < b)
range_within a b i le h =
    let g = get_Contains (range_with_len a (b - a)) i h in
    let long : length (range_with_len a (b - a)) ≡ b - a = length-range_with_len a (b - a) in
    let lt : g.0 < length (range_with_len a (b - a)) = slice_get_within (range_with_len a (b - a)) g.0 i g.1 in
    let few : g.0 < b - a = omega (arith, lt, long) in
    let is : i ≡ a + g.0 = sym (get_or_from_slice_get (range_with_len a (b - a)) g.0 i 0 g.1) ∙ get_or-range_with_len a (b - a) g.0 0 few in
    (omega (arith, is), omega (arith, is, few))

pub within_range : (a b i : ℕ) → a ≤ i → i < b → Contains (range_with_len a (b - a)) i
within_range a b i le lt =
    let long : length (range_with_len a (b - a)) ≡ b - a = length-range_with_len a (b - a) in
    let few : i - a < b - a = omega (arith, le, lt) in
    let is : a + (i - a) ≡ i = omega (arith, le) in
    Contains_get (range_with_len a (b - a)) (i - a) i (get_is (range_with_len a (b - a)) (i - a) i (omega (arith, few, long)) (get_or-range_with_len a (b - a) (i - a) i few ∙ is))

module _ {C : Type 0} (S : Space C) (names : List ℕ) (spans : List Span) (hops : List (Hop C)) (heads : List ℕ) (h : IsLocal S names spans hops heads (length names)) (a : ℕ) where
  -- each number has a span
  pub has_span : a < length names → a < length spans
  has_span lt = let size : length spans ≡ length names = h.size in omega (arith, lt, size)

  module _ (span : Span) (e : slice_get spans a ≡ Some span) where
    name_here : (u : ℕ) × (slice_get names a ≡ Some u)
    name_here =
        let lt : a < length spans = slice_get_within spans a span e in
        let size : length spans ≡ length names = h.size in
        get_some names a (omega (arith, lt, size))

    pub arcs_rise : span.arcs ≤ span.arcs_end
    arcs_rise = (h.each a name_here.0 span e name_here.1).rises

    pub arcs_within : span.arcs_end ≤ length hops
    arcs_within = (h.each a name_here.0 span e name_here.1).within

    pub row_rises : span.row ≤ span.row_end
    row_rises = (h.each a name_here.0 span e name_here.1).row.rises

    pub row_within : span.row_end ≤ length heads
    row_within = (h.each a name_here.0 span e name_here.1).row.within

    pub arcs_named : (i : ℕ) → Contains (range_with_len span.arcs (span.arcs_end - span.arcs)) i → IsHopOf spans a i
    arcs_named i c = let r = range_within span.arcs span.arcs_end i arcs_rise c in (span, e, r.0, r.1)

    pub named_arcs : (i : ℕ) → IsHopOf spans a i → Contains (range_with_len span.arcs (span.arcs_end - span.arcs)) i
    named_arcs i n =
        let same : n.0 ≡ span = same_Some n.0 span (sym n.1 ∙ e) in
        within_range span.arcs span.arcs_end i (subst (λ (s : Span). s.arcs ≤ i) same n.2) (subst (λ (s : Span). i < s.arcs_end) same n.3)

    pub heads_here : slice_range heads span.row span.row_end ≡ row_in heads (slice_get spans a)
    heads_here = sym (ap (row_in heads) e)

    pub places_here : HasPlaces spans a → span.row < span.row_end
    places_here p = subst (λ (s : Span). s.row < s.row_end) (same_Some p.0 span (sym p.1 ∙ e)) p.2

  pub hop_within : (i : ℕ) → IsHopOf spans a i → i < length hops
  hop_within i n = let le : n.0.arcs_end ≤ length hops = arcs_within n.0 n.1 in omega (arith, le, n.3)

-- what follows where an answer is yes, and where it is no
pub on_true : {P Q : Type 0} (b : Bool) → OnTrue b P → (P → Q) → OnTrue b Q
on_true true h f = f h
on_true false h f = tt

pub on_false : {P Q : Type 0} (b : Bool) → OnFalse b P → (P → Q) → OnFalse b Q
on_false true h f = tt
on_false false h f = f h
