-- How hops and rows under other numbers are put together, and that all together they rename the space.
use Rattle.std.proofs.Common.{◌≡◌, ℕ, ◌+◌, ◌<◌, ◌≤◌, ◌⊎◌, inl, inr, Bool, true, false, Option, None, Result, Ok, Err, OnOk, List, [], ◌∷◌, ◌++◌, length, Some, refl, sym, ◌∙◌, ap, subst, arith, length-append}
use Rattle.std.specs.Bool.{OnTrue}
use Rattle.std.specs.List.{slice_get, slice_range}
use Rattle.std.proofs.lemmas.Bool.{cases_lt}
use Rattle.std.proofs.lemmas.Option.{same_Some, slice_get_within}
use Rattle.list_lemmas.proofs.Gets.{get_some, get_append, get_push, get_pushed, get_part, part_get}
use Rattle.step_search.specs.Spaces.{Space}
use Rattle.step_search.specs.declared.hops.Hop.{Hop}
use Rattle.cell_customize.specs.declared.local.Span.{Span}
use Rattle.cell_customize.specs.Numbers.{Keeps, AreBelow}
use Rattle.cell_customize.specs.Local.{AreHops, AreHeads, IsRowAt, IsSpan, IsLocal, row_in, local_space}
use Rattle.cell_customize.specs.Renaming.{IsRenaming}
use Rattle.cell_customize.proofs.Numbered.{kept_back, keeps_length}

-- nothing is no value
pub never_some : {A : Type 0} (x : A) → ¬ (◌≡◌ {A = Option A} None (Some x))
never_some {A} x e = cc

-- the arcs up to a place, and that at it
pub one_more_arc : (arcs : List ℕ) (place new arc : ℕ) → slice_get arcs place ≡ Some new → (k : ℕ) × (k < place + 1) × (slice_get arcs k ≡ Some arc) → ((k : ℕ) × (k < place) × (slice_get arcs k ≡ Some arc)) ⊎ (arc ≡ new)
one_more_arc arcs place new arc at h = elim (cases_lt h.0 place) [
  | inl lt ↦ inl (h.0, lt, h.2)
  | inr past ↦
      let same : h.0 ≡ place = omega (arith, past, h.1) in
      inr (same_Some arc new (sym h.2 ∙ ap (slice_get arcs) same ∙ at))
]

-- one head more at the end
pub AreHeads-push : (names0 names1 heads vertices : List ℕ) (from i v b : ℕ) → Keeps names0 names1 → length heads ≡ from + i → slice_get vertices i ≡ Some v → slice_get names1 b ≡ Some v →
    AreHeads names0 heads from vertices i → AreHeads names1 (heads ++ b ∷ []) from vertices (i + 1)
AreHeads-push names0 names1 heads vertices from i v b keeps size at named h = record {
  within = omega (arith, size, length-append heads (b ∷ []));
  each = λ k w lt e. elim (cases_lt k i) [
    | inl less ↦
        let r = h.each k w less e in
        (r.0, get_append heads (b ∷ []) (from + k) r.0 r.1, keeps r.0 w r.2)
    | inr past ↦
        let same : k ≡ i = omega (arith, lt, past) in
        let place : length heads ≡ from + k = omega (arith, size, same) in
        let is : v ≡ w = same_Some v w (sym at ∙ ap (slice_get vertices) (sym same) ∙ e) in
        (b, subst (λ (n : ℕ). slice_get (heads ++ b ∷ []) n ≡ Some b) place (get_pushed heads b), subst (λ (x : ℕ). slice_get names1 b ≡ Some x) is named)
  ];
}

-- one number more is found
pub found_more : (names heads vertices : List ℕ) (from i v : ℕ) → slice_get vertices i ≡ Some v → (b : ℕ) × (slice_get heads (from + i) ≡ Some b) × (slice_get names b ≡ Some v) →
    ((k w : ℕ) → k < i → slice_get vertices k ≡ Some w → (b : ℕ) × (slice_get heads (from + k) ≡ Some b) × (slice_get names b ≡ Some w)) →
    (k w : ℕ) → k < i + 1 → slice_get vertices k ≡ Some w → (b : ℕ) × (slice_get heads (from + k) ≡ Some b) × (slice_get names b ≡ Some w)
found_more names heads vertices from i v at here before k w lt e = elim (cases_lt k i) [
  | inl less ↦ before k w less e
  | inr past ↦
      let same : i ≡ k = omega (arith, lt, past) in
      let is : v ≡ w = same_Some v w (sym at ∙ ap (slice_get vertices) same ∙ e) in
      (here.0, subst (λ (n : ℕ). slice_get heads (from + n) ≡ Some here.0) same here.1, subst (λ (x : ℕ). slice_get names here.0 ≡ Some x) is here.2)
]

-- what follows of a fact where a call was good
pub on_ok : {V E : Type 0} {P Q : Type 0} (r : Result V E) → OnOk r P → (P → Q) → OnOk r Q
on_ok (Ok v) h f = f h
on_ok (Err e) h f = tt

-- all are found, where the list is long enough
pub heads_found : (b : Bool) (names heads vertices : List ℕ) (from i : ℕ) → i ≡ length vertices → OnTrue b (from + length vertices ≤ length heads) →
    ((k w : ℕ) → k < i → slice_get vertices k ≡ Some w → (b : ℕ) × (slice_get heads (from + k) ≡ Some b) × (slice_get names b ≡ Some w)) → OnTrue b (AreHeads names heads from vertices (length vertices))
heads_found true names heads vertices from i all h found = record { within = h; each = λ k w lt e. found k w (omega (arith, lt, all)) e }
heads_found false names heads vertices from i all h found = tt

module _ {C : Type 0} (S : Space C) (u : ℕ) where
  -- at first there are none
  pub AreHops-none : (names : List ℕ) (hops : List (Hop C)) (Done : ℕ → Type 0) → ((g : ℕ) → ¬ Done g) → AreHops S u names hops (length hops) Done
  AreHops-none names hops Done none = record {
    there = λ i b s le e. let lt : i < length hops = slice_get_within hops i (record { head = b; cost = s }) e in absurd (omega (arith, le, lt));
    back = λ g v s done arc. absurd (none g done);
  }

  -- of an arc that is closed there is none
  pub AreHops-closed : (names : List ℕ) (hops : List (Hop C)) (arc : ℕ) → ((v : ℕ) (s : C) → ¬ S.Arc u arc v s) → AreHops S u names hops (length hops) (λ g. g ≡ arc)
  AreHops-closed names hops arc closed = record {
    there = λ i b s le e. let lt : i < length hops = slice_get_within hops i (record { head = b; cost = s }) e in absurd (omega (arith, le, lt));
    back = λ g v s same h. absurd (closed v s (subst (λ (x : ℕ). S.Arc u x v s) same h));
  }

  -- of an arc that is open there is one
  pub AreHops-one : (names : List ℕ) (hops : List (Hop C)) (arc b : ℕ) (hop : Hop C) → slice_get names b ≡ Some hop.head → S.Arc u arc hop.head hop.cost →
      ((w : ℕ) (t : C) → S.Arc u arc w t → ◌≡◌ {A = Hop C} hop (record { head = w; cost = t })) → AreHops S u names (hops ++ record { head = b; cost = hop.cost } ∷ []) (length hops) (λ g. g ≡ arc)
  AreHops-one names hops arc b hop named is only = record {
    there = λ i x s le e. elim (get_push hops (record { head = b; cost = hop.cost }) i (record { head = x; cost = s }) e) [
      | inl g ↦ let lt : i < length hops = slice_get_within hops i (record { head = x; cost = s }) g in absurd (omega (arith, le, lt))
      | inr g ↦
          let head : b ≡ x = ap (λ (y : Hop C). y.head) (sym g.1) in
          let cost : hop.cost ≡ s = ap (λ (y : Hop C). y.cost) (sym g.1) in
          (hop.head, subst (λ (y : ℕ). slice_get names y ≡ Some hop.head) head named, arc, subst (λ (t : C). S.Arc u arc hop.head t) cost is)
    ];
    back = λ g v s done h.
        let same : hop ≡ record { head = v; cost = s } = only v s (subst (λ (x : ℕ). S.Arc u x v s) done h) in
        let head : hop.head ≡ v = ap (λ (y : Hop C). y.head) same in
        let cost : hop.cost ≡ s = ap (λ (y : Hop C). y.cost) same in
        let le : length hops ≤ length hops = omega arith in (
          length hops,
          le,
          b,
          subst (λ (t : C). slice_get (hops ++ record { head = b; cost = hop.cost } ∷ []) (length hops) ≡ Some (record { head = b; cost = t })) cost (get_pushed hops (record { head = b; cost = hop.cost })),
          subst (λ (x : ℕ). slice_get names b ≡ Some x) head named,
        );
  }

  -- more hops behind them, of one arc more
  pub AreHops-more : (names0 names1 : List ℕ) (hops0 hops1 : List (Hop C)) (from arc : ℕ) (Done : ℕ → Type 0) → Keeps names0 names1 → Keeps hops0 hops1 → from ≤ length hops0 →
      AreHops S u names0 hops0 from Done → AreHops S u names1 hops1 (length hops0) (λ g. g ≡ arc) → AreHops S u names1 hops1 from (λ g. Done g ⊎ (g ≡ arc))
  AreHops-more names0 names1 hops0 hops1 from arc Done names hops within a b = record {
    there = λ i x s le e. elim (cases_lt i (length hops0)) [
      | inl lt ↦
          let r = a.there i x s le (kept_back hops0 hops1 hops i (record { head = x; cost = s }) lt e) in
          (r.0, names x r.0 r.1, r.2, r.3)
      | inr past ↦ b.there i x s past e
    ];
    back = λ g v s done h. elim done [
      | inl before ↦
          let r = a.back g v s before h in
          (r.0, r.1, r.2, hops r.0 (record { head = r.2; cost = s }) r.3, names r.2 v r.4)
      | inr same ↦
          let r = b.back g v s same h in
          let le : from ≤ r.0 = omega (arith, within, r.1) in
          (r.0, le, r.2, r.3, r.4)
    ];
  }

  pub AreHops-as : (names : List ℕ) (hops : List (Hop C)) (from : ℕ) (Done Other : ℕ → Type 0) → ((g v : ℕ) (s : C) → S.Arc u g v s → Other g → Done g) → AreHops S u names hops from Done → AreHops S u names hops from Other
  AreHops-as names hops from Done Other f h = record { there = h.there; back = λ g v s other arc. h.back g v s (f g v s arc other) arc }

  -- a row without costs has no places
  pub IsRowAt-none : (names heads : List ℕ) → ((j : ℕ) (s : C) → ¬ S.Costs u j s) → IsRowAt S u names heads 0 0
  IsRowAt-none names heads none = record {
    rises = omega arith;
    within = omega arith;
    there = λ j b lt e. absurd (omega (arith, lt));
    back = λ j v s at cost. absurd (none j s cost);
  }

  -- the row by its heads
  pub IsRowAt-heads : (names heads : List ℕ) (from end : ℕ) (vertices : List ℕ) → vertices ≡ S.heads u → end ≡ from + length vertices → AreHeads names heads from vertices (length vertices) → IsRowAt S u names heads from end
  IsRowAt-heads names heads from end vertices same ends h = record {
    rises = omega (arith, ends);
    within = omega (arith, ends, h.within);
    there = λ j b lt e.
        let few : j < length vertices = omega (arith, lt, ends) in
        let g = get_some vertices j few in
        let r = h.each j g.0 few g.1 in
        let here : r.0 ≡ b = same_Some r.0 b (sym r.1 ∙ e) in
        (g.0, subst (λ (xs : List ℕ). slice_get xs j ≡ Some g.0) same g.1, subst (λ (x : ℕ). slice_get names x ≡ Some g.0) here r.2);
    back = λ j v s at cost.
        let in_list : slice_get vertices j ≡ Some v = subst (λ (xs : List ℕ). slice_get xs j ≡ Some v) (sym same) at in
        let few : j < length vertices = slice_get_within vertices j v in_list in
        let r = h.each j v few in_list in
        let lt : from + j < end = omega (arith, few, ends) in
        (lt, r.0, r.1, r.2);
  }

  IsRowAt-grows : (names0 names1 heads0 heads1 : List ℕ) (row row_end : ℕ) → Keeps names0 names1 → Keeps heads0 heads1 → IsRowAt S u names0 heads0 row row_end → IsRowAt S u names1 heads1 row row_end
  IsRowAt-grows names0 names1 heads0 heads1 row row_end names heads h = record {
    rises = h.rises;
    within = keeps_length heads0 heads1 heads row_end h.within;
    there = λ j b lt e.
        let le : row_end ≤ length heads0 = h.within in
        let r = h.there j b lt (kept_back heads0 heads1 heads (row + j) b (omega (arith, lt, le)) e) in
        (r.0, r.1, names b r.0 r.2);
    back = λ j v s at cost.
        let r = h.back j v s at cost in
        (r.0, r.1, heads (row + j) r.1 r.2, names r.1 v r.3);
  }

  IsSpan-grows : (names0 names1 : List ℕ) (hops0 hops1 : List (Hop C)) (heads0 heads1 : List ℕ) (span : Span) → Keeps names0 names1 → Keeps hops0 hops1 → Keeps heads0 heads1 →
      IsSpan S u names0 hops0 heads0 span → IsSpan S u names1 hops1 heads1 span
  IsSpan-grows names0 names1 hops0 hops1 heads0 heads1 span names hops heads h = record {
    rises = h.rises;
    within = keeps_length hops0 hops1 hops span.arcs_end h.within;
    there = λ i b s le lt e.
        let few : span.arcs_end ≤ length hops0 = h.within in
        let r = h.there i b s le lt (kept_back hops0 hops1 hops i (record { head = b; cost = s }) (omega (arith, lt, few)) e) in
        (r.0, names b r.0 r.1, r.2, r.3);
    back = λ g v s arc.
        let r = h.back g v s arc in
        (r.0, r.1, r.2, r.3, hops r.0 (record { head = r.3; cost = s }) r.4, names r.3 v r.5);
    row = IsRowAt-grows names0 names1 heads0 heads1 span.row span.row_end names heads h.row;
  }

  IsSpan-made : (names0 names1 : List ℕ) (hops heads : List _) (arcs arcs_end row row_end : ℕ) → Keeps names0 names1 → arcs ≤ arcs_end → arcs_end ≡ length hops →
      AreHops S u names0 hops arcs (λ g. Unit {0}) → IsRowAt S u names1 heads row row_end → IsSpan S u names1 hops heads (record { arcs = arcs; arcs_end = arcs_end; row = row; row_end = row_end })
  IsSpan-made names0 names1 hops heads arcs arcs_end row row_end names rises end h r = record {
    rises = rises;
    within = omega (arith, end);
    there = λ i b s le lt e. let x = h.there i b s le e in (x.0, names b x.0 x.1, x.2, x.3);
    back = λ g v s arc.
        let x = h.back g v s tt arc in
        let lt : x.0 < length hops = slice_get_within hops x.0 (record { head = x.2; cost = s }) x.3 in
        let below : x.0 < arcs_end = omega (arith, end, lt) in
        (x.0, x.1, below, x.2, x.3, names x.2 v x.4);
    row = r;
  }

module _ {C : Type 0} (S : Space C) where
  -- before any is taken
  pub IsLocal-none : (names : List ℕ) (spans : List Span) (hops : List (Hop C)) (heads : List ℕ) → spans ≡ [] → AreBelow S.vertices names → IsLocal S names spans hops heads 0
  IsLocal-none names spans hops heads none below = record {
    size = ap length none;
    below = below;
    each = λ a u span e n.
        let lt : a < length spans = slice_get_within spans a span e in
        let zero : length spans ≡ 0 = ap length none in
        absurd (omega (arith, lt, zero));
  }

  -- one more is taken
  pub IsLocal-push : (names0 names1 names2 : List ℕ) (spans : List Span) (hops0 hops1 : List (Hop C)) (heads0 heads1 : List ℕ) (done u arcs arcs_end row row_end : ℕ) →
      Keeps names0 names1 → Keeps names1 names2 → Keeps hops0 hops1 → Keeps heads0 heads1 → AreBelow S.vertices names2 → slice_get names0 done ≡ Some u → arcs ≡ length hops0 → arcs_end ≡ length hops1 →
      AreHops S u names1 hops1 (length hops0) (λ g. Unit {0}) → IsRowAt S u names2 heads1 row row_end → IsLocal S names0 spans hops0 heads0 done →
      IsLocal S names2 (spans ++ record { arcs = arcs; arcs_end = arcs_end; row = row; row_end = row_end } ∷ []) hops1 heads1 (done + 1)
  IsLocal-push names0 names1 names2 spans hops0 hops1 heads0 heads1 done u arcs arcs_end row row_end one two hops heads below here begin end h r before =
      let size : length spans ≡ done = before.size in
      let le : length hops0 ≤ length hops1 = keeps_length hops0 hops1 hops (length hops0) (omega arith) in
      let both : Keeps names0 names2 = λ i x e. two i x (one i x e) in
      let from : AreHops S u names1 hops1 arcs (λ g. Unit {0}) = subst (λ (n : ℕ). AreHops S u names1 hops1 n (λ g. Unit {0})) (sym begin) h in
      let made : IsSpan S u names2 hops1 heads1 (record { arcs = arcs; arcs_end = arcs_end; row = row; row_end = row_end }) = IsSpan-made S u names1 names2 hops1 heads1 arcs arcs_end row row_end two (omega (arith, begin, end, le)) end from r in
      record {
        size = omega (arith, size, length-append spans (record { arcs = arcs; arcs_end = arcs_end; row = row; row_end = row_end } ∷ []));
        below = below;
        each = λ a v span e n. elim (get_push spans (record { arcs = arcs; arcs_end = arcs_end; row = row; row_end = row_end }) a span e) [
          | inl g ↦
              let lt : a < length spans = slice_get_within spans a span g in
              let bound : done < length names0 = slice_get_within names0 done u here in
              let old : slice_get names0 a ≡ Some v = kept_back names0 names2 both a v (omega (arith, lt, size, bound)) n in
              IsSpan-grows S v names0 names2 hops0 hops1 heads0 heads1 span both hops heads (before.each a v span g old)
          | inr g ↦
              let place : a ≡ done = g.0 ∙ size in
              let now : slice_get names2 a ≡ Some u = subst (λ (x : ℕ). slice_get names2 x ≡ Some u) (sym place) (both done u here) in
              let same : u ≡ v = same_Some u v (sym now ∙ n) in
              subst (λ (x : ℕ). IsSpan S x names2 hops1 heads1 span) same (subst (IsSpan S u names2 hops1 heads1) (sym g.1) made)
        ];
      }

  module _ (names : List ℕ) (spans : List Span) (hops : List (Hop C)) (heads : List ℕ) (h : IsLocal S names spans hops heads (length names)) where
    abbrev small : Space C
    small = local_space S names spans hops heads

    -- each number has a span
    span_of : (a u : ℕ) → slice_get names a ≡ Some u → (span : Span) × (slice_get spans a ≡ Some span)
    span_of a u n =
        let lt : a < length names = slice_get_within names a u n in
        let size : length spans ≡ length names = h.size in
        get_some spans a (omega (arith, lt, size))

    -- the heads of a number that has a span
    heads_of : (a : ℕ) (span : Span) → slice_get spans a ≡ Some span → row_in heads (slice_get spans a) ≡ slice_range heads span.row span.row_end
    heads_of a span e = ap (row_in heads) e

    name_of : (a : ℕ) (span : Span) → slice_get spans a ≡ Some span → (u : ℕ) × (slice_get names a ≡ Some u)
    name_of a span e =
        let lt : a < length spans = slice_get_within spans a span e in
        let size : length spans ≡ length names = h.size in
        get_some names a (omega (arith, lt, size))

    -- all together they rename the space
    pub IsRenaming-local : ((a b v : ℕ) → slice_get names a ≡ Some v → slice_get names b ≡ Some v → a ≡ b) → IsRenaming S small names
    IsRenaming-local distinct = record {
      size = refl;
      distinct = distinct;
      may = λ a v n. (
        λ m. subst (λ (x : ℕ). S.May x) (same_Some m.0 v (sym m.1 ∙ n)) m.2,
        λ m. (v, n, m),
      );
      begins = λ a m. (m.0, m.1);
      leaves = λ a b s hop. elim hop [
        | inl p ↦ name_of a p.1.0.0 p.1.0.1
        | inr p ↦ (p.2.0, p.2.1)
      ];
      arc_there = λ a b u s n p.
          let is = h.each a u p.1.0.0 p.1.0.1 n in
          let r = is.there p.0 b s p.1.0.2 p.1.0.3 p.1.1 in
          (r.0, r.1, (r.2, r.3));
      arc_back = λ a u v s n p.
          let g = span_of a u n in
          let is = h.each a u g.0 g.1 n in
          let r = is.back p.0 v s p.1 in
          (r.3, r.5, (r.0, ((g.0, g.1, r.1, r.2), r.4)));
      row_there = λ a b u s n p.
          let same : p.2.0 ≡ u = same_Some p.2.0 u (sym p.2.1 ∙ n) in
          let span = p.2.2.0 in
          let is = h.each a u span p.2.2.1 n in
          let here : slice_get (slice_range heads span.row span.row_end) p.0 ≡ Some b = subst (λ (xs : List ℕ). slice_get xs p.0 ≡ Some b) (heads_of a span p.2.2.1) p.1 in
          let part = get_part heads span.row span.row_end p.0 b is.row.within here in
          let r = is.row.there p.0 b part.0 part.1 in
          (r.0, r.2, (p.0, r.1, subst (λ (x : ℕ). S.Costs x p.0 s) same p.2.3));
      row_back = λ a u v s n p.
          let g = span_of a u n in
          let is = h.each a u g.0 g.1 n in
          let r = is.row.back p.0 v s p.1 p.2 in
          let here = part_get heads g.0.row g.0.row_end p.0 r.1 is.row.within r.0 r.2 in
          let places : g.0.row < g.0.row_end = omega (arith, r.0) in
          (r.1, r.3, (p.0, subst (λ (xs : List ℕ). slice_get xs p.0 ≡ Some r.1) (sym (heads_of a g.0 g.1)) here, (u, n, (g.0, g.1, places), p.2)));
    }
