-- The steps over parts are the hops over their cut, and what they lead over can be searched.
use Rattle.std.proofs.Common.{◌≡◌, ◌≢◌, ℕ, ◌<◌, ◌≤◌, inl, inr, cond, Option, Some, None, List, [], length, refl, sym, ◌∙◌, ap, subst, arith}
use Rattle.std.specs.List.{slice_get}
use Rattle.std.proofs.lemmas.Option.{same_Some, slice_get_within}
use Rattle.std.proofs.lemmas.Bool.Decides.{eqb_tells}
use Rattle.list_lemmas.proofs.Gets.{get_Contains, get_some}
use Rattle.search_graph.specs.Costs.{CostOps, CostLaws}
use Rattle.search_graph.specs.Digraph.{Weighting, IsArc, IsOpen}
use Rattle.search_graph.specs.Walks.{IsMove}
use Rattle.search_graph.specs.OrderLaws.{same_from_le}
use Rattle.search_graph.specs.ChainLaws.{Chain-valid}
use Rattle.step_search.specs.Spaces.{HasHop}
use Rattle.cut_walks.specs.Cut.{IsCut, IsSmall, OverHop, MayBegin}
use Rattle.cut_walks.specs.Bounds.{IsSpace-over}
use Rattle.cell_frame.specs.declared.cells.Cell.{Cell}
use Rattle.cell_frame.specs.Borders.{AreApart, Framed, IsFramed, Holds, IsCell, at_cell}
use Rattle.cell_frame.specs.Cliqued.{AreExact, CliqueLists}
use Rattle.cell_frame.specs.Inside.{IsMoveIn, IsLeastInside, IsInsideValue}
use Rattle.cell_frame.specs.Parts.{whole_at, ShareCell, AreParts, part_cut}
use Rattle.cell_frame.specs.PartSpace.{NamesArc, row_heads, part_space, IsLawful}
use Rattle.search_graph.specs.Weighted.{AreSmall}
use Rattle.cell_frame.proofs.Parting.{IsCut-parts, AreValued}
use Rattle.cell_frame.proofs.Levels.{IsCell-of}

module _ {C : Type 0} {ops : CostOps C} (laws : CostLaws ops) (f : Framed) (framed : IsFramed f) (w : Weighting C) (small : AreSmall ops f.graph w) where
  move_units : (u v : ℕ) (s : C) → IsMove ops f.graph w u v s → ops.units s 2
  move_units u v s h = subst (λ x. ops.units x 2) (sym h.4) (laws.plus_units h.0 h.1 1 1 (small.arc_unit h.2.0 h.0 h.2.2) (small.vertex_unit v h.1 h.3))

  move_valid : (u v : ℕ) (s : C) → IsMove ops f.graph w u v s → ops.valid s
  move_valid u v s h = laws.units_valid s 2 (move_units u v s h)

  open_below : (v : ℕ) (x : C) → IsOpen w v x → v < f.graph.vertices
  open_below v x o = let lt : v < length w.vertex = slice_get_within w.vertex v (Some x) o in let n : length w.vertex ≡ f.graph.vertices = small.vertices in omega arith

  held_below : (k : Cell) (u : ℕ) → Holds f.cells k u → u < f.graph.vertices
  held_below k u h = let lt : u < f.cells.vertices = h.0 in let n : f.cells.vertices ≡ f.graph.vertices = framed.vertices in omega arith

  least_inside_valid : (k : Cell) (u v : ℕ) (s : C) → IsLeastInside ops f.graph w (Holds f.cells k) u v s → ops.valid s
  least_inside_valid k u v s h = Chain-valid laws {Hop = IsMoveIn ops f.graph w (Holds f.cells k)} (λ a b c m. move_valid a b c m.1) u v ops.zero s h.walk laws.zero_valid h.leads.goes

  -- a least cost inside is the value inside
  pub value_is : (k : Cell) (u v : ℕ) (s : C) (o : Option C) → IsInsideValue ops f.graph w (Holds f.cells k) u v o → IsLeastInside ops f.graph w (Holds f.cells k) u v s → o ≡ Some s
  value_is k u v s None none least = absurd (none least.walk s least.leads)
  value_is k u v s (Some x) some least =
      let vx : ops.valid x = least_inside_valid k u v x some in
      let vs : ops.valid s = least_inside_valid k u v s least in
      ap Some (same_from_le laws x s vx vs (some.least least.walk s least.leads) (least.least some.walk x some.leads))

  module _ (In : ℕ → Type 0) (level : ℕ → ℕ) (parts : AreParts f.cells In level) (cliques : CliqueLists C) (top : ℕ) (exact : AreExact ops f w cliques top)
      (high : (v : ℕ) → level v ≤ top) (most : top ≤ length f.cells.levels) where
    abbrev at : ℕ → Cell
    at u = whole_at f.cells level u

    pub whole_is_cell : (u : ℕ) → u < f.graph.vertices → 1 ≤ level u → IsCell f.cells (at u)
    whole_is_cell u lt some =
        let h : level u ≤ top = high u in
        let n : f.cells.vertices ≡ f.graph.vertices = framed.vertices in
        IsCell-of f.cells framed.kept u (level u) (omega arith) some (omega arith)

    valued : AreValued ops f.graph f.cells w level
    valued u v some enter exit =
        let is_cell : IsCell f.cells (at u) = whole_is_cell u (held_below (at u) u enter.0) some in
        let e = get_Contains (at_cell f.entries (at u)) u ((framed.entries (at u) u is_cell).1 enter) in
        let x = get_Contains (at_cell f.exits (at u)) v ((framed.exits (at u) v is_cell).1 exit) in
        let r = exact.rows (at u) e.0 u is_cell (high u) e.1 in
        let size : length r.0 ≡ length (at_cell f.exits (at u)) = r.2.size in
        let within : x.0 < length (at_cell f.exits (at u)) = slice_get_within (at_cell f.exits (at u)) x.0 v x.1 in
        let o = get_some r.0 x.0 (omega arith) in
        (o.0, r.2.each x.0 v o.0 x.1 o.1)

    is_cut : IsCut ops (part_cut ops f.graph f.cells w In level)
    is_cut = IsCut-parts f.cells In level parts ops f.graph w move_valid valued

    pub heads_are : (u : ℕ) → 1 ≤ level u → row_heads f level u ≡ at_cell f.exits (at u)
    heads_are u some = elim (eqb_tells (level u) 0) [
      | inl p ↦ let z : level u ≡ 0 = p.1 in absurd (omega arith)
      | inr p ↦ ap (λ b. cond b [] (at_cell f.exits (at u))) p.0
    ]

    over_from_hop : (u v : ℕ) (s : C) → HasHop (part_space ops f w In level) u v s → OverHop (part_cut ops f.graph f.cells w In level) u v s
    over_from_hop u v s h = elim h [
      | inl p ↦ inl (p.1.9, (p.1.8, (p.1.1, p.1.2, (p.1.0, p.1.4, p.1.5), p.1.6, p.1.7)))
      | inr p ↦ let same : p.2.0 ≡ v = same_Some p.2.0 v (sym p.2.1 ∙ p.1) in inr (subst (λ (x : ℕ). (part_cut ops f.graph f.cells w In level).Shortcut u x s) same p.2.2)
    ]

    -- an arc that leaves its part has a name
    named : (u v arc : ℕ) → IsArc f.graph arc u v → (¬ ShareCell f.cells level u v) → (i : ℕ) × NamesArc f level u i arc
    named u v arc is out = elim (eqb_tells (level u) 0) [
      | inl p ↦ (arc, inl (p.1, refl))
      | inr p ↦
          let ne : level u ≢ 0 = p.1 in
          let some : 1 ≤ level u = omega arith in
          let le : level u ≤ top = high u in
          let ends = framed.in_range arc u v is in
          let n : f.cells.vertices ≡ f.graph.vertices = framed.vertices in
          let apart : AreApart f.cells (level u) u v = λ same. out (some, (omega (arith, ends.0), refl), (omega (arith, ends.1), sym same)) in
          let c = framed.all (level u) u v arc some (omega (arith, le, most)) ends.0 is apart in
          (c.0, inr (some, c.1, c.2, c.3, c.4))
    ]

    hop_from_over : (u v : ℕ) (s : C) → OverHop (part_cut ops f.graph f.cells w In level) u v s → HasHop (part_space ops f w In level) u v s
    hop_from_over u v s h = elim h [
      | inl p ↦ let m = p.1.1 in let n = named u v m.2.0 m.2.1 p.0 in inl (n.0, (m.2.0, m.0, m.1, n.1, m.2.1, m.2.2, m.3, m.4, p.1.0, p.0))
      | inr p ↦
          let is_cell : IsCell f.cells (at u) = whole_is_cell u (held_below (at u) u p.1.1) p.1.0 in
          let x = get_Contains (at_cell f.exits (at u)) v ((framed.exits (at u) v is_cell).1 p.3) in
          let here : slice_get (row_heads f level u) x.0 ≡ Some v = ap (λ (vs : List ℕ). slice_get vs x.0) (heads_are u p.1.0) ∙ x.1 in
          inr (x.0, here, (v, here, p))
    ]

    may_begin : (u : ℕ) → (part_space ops f w In level).May u → MayBegin (part_cut ops f.graph f.cells w In level) u
    may_begin u m = (
      (m.1, m.2.0, m.2.1),
      elim (eqb_tells (level u) 0) [
        | inl p ↦ inl (λ (j : ShareCell f.cells level u u). let some : 1 ≤ level u = j.0 in omega (arith, p.1))
        | inr p ↦ elim m.3 [
          | inl zero ↦ absurd (p.1 zero)
          | inr enter ↦ let ne : level u ≢ 0 = p.1 in let some : 1 ≤ level u = omega arith in inr ((some, enter.0, enter.0), enter)
        ]
      ],
    )

    is_small : IsSmall ops (part_cut ops f.graph f.cells w In level) f.graph.vertices
    is_small = record {
      few = small.few;
      units = λ u v s h. move_units u v s h.1;
      heads = λ u v s h. open_below v h.1.1 h.1.3;
      within = λ u v s h. held_below (at u) v h.3.0;
    }

    pub IsLawful-parts : IsLawful ops f w In level
    IsLawful-parts = record {
      cut = is_cut;
      over = λ u v s. (over_from_hop u v s, hop_from_over u v s);
      space = IsSpace-over laws (part_cut ops f.graph f.cells w In level) is_cut (part_space ops f w In level) (λ u v s. (over_from_hop u v s, hop_from_over u v s)) f.graph.vertices is_small refl (λ u m. (m.0, may_begin u m));
      begins = may_begin;
    }
