-- The steps backwards are the hops over the parts, turned round.
use Rattle.std.proofs.Common.{◌≡◌, ℕ, ◌+◌, ◌<◌, ◌↔◌, inl, inr, List, length, refl, sym, subst}
use Rattle.std.specs.List.{Contains}
use Rattle.list_lemmas.proofs.Gets.{Contains_get, get_Contains}
use Rattle.search_graph.specs.Costs.{CostOps, CostLaws}
use Rattle.search_graph.specs.Digraph.{Digraph, Weighting, IsArc}
use Rattle.search_graph.specs.Walks.{Chain, Paying}
use Rattle.search_graph.specs.ChainLaws.{Chain-map}
use Rattle.step_search.specs.Spaces.{Space, HasHop, StepBy, Path}
use Rattle.cut_walks.specs.Cut.{Cut, OverHop, Passes}
use Rattle.cut_walks.specs.Cutting.{over_valid}
use Rattle.cell_frame.specs.declared.cells.Cell.{Cell}
use Rattle.cell_frame.specs.Borders.{Framed, Holds, IsEntry, IsExit, IsCell, at_cell}
use Rattle.cell_frame.specs.Cliqued.{CliqueLists}
use Rattle.cell_frame.specs.Inside.{IsLeastInside}
use Rattle.cell_frame.specs.Parts.{ShareCell}
use Rattle.column_search.specs.Toward.{level_toward, IsToward}
use Rattle.column_search.specs.Backward.{arcs_to, part_toward, back_space, toward_cut}
use Rattle.column_search.proofs.Chains.{Chain-keep, Chain-stays, Chain-back}
use Rattle.column_search.proofs.Parting.{held_below, part_same, share_back, share_held, part_is_cell}

-- the lists have the arcs by their heads
abbrev pub AreTo : Digraph → List (List ℕ) → Type 0
AreTo g heads = (v : ℕ) → v < g.vertices → (i : ℕ) → Contains (arcs_to heads v) i ↔ ((u : ℕ) × IsArc g i u v)

module _ {C : Type 0} {ops : CostOps C} (laws : CostLaws ops) (f : Framed) (w : Weighting C) (cliques : CliqueLists C) (k : Cell) (t : ℕ) (to : IsToward ops f w cliques k t) where
  abbrev cut : Cut C
  cut = toward_cut ops f w k t

  -- a hop over the parts of the cell stays in it
  pub over_inside : (u v : ℕ) (s : C) → Holds f.cells k u → OverHop cut u v s → Holds f.cells k v
  over_inside u v s h o = elim o [ inl p ↦ p.1.0 | inr p ↦ to.toward.parts.inner u v p.1 h ]

  module _ (heads : List (List ℕ)) (by_head : AreTo f.graph heads) where
    abbrev back : Space C
    back = back_space ops f w k t heads

    back_from_over : (u v : ℕ) (s : C) → Holds f.cells k u → OverHop cut u v s → HasHop back v u s
    back_from_over u v s h o = elim o [
      | inl p ↦
          let m = p.1.1 in
          let lt : v < f.graph.vertices = held_below f to.framed k to.is_cell t to.toward k v p.1.0 in
          let at = get_Contains (arcs_to heads v) m.2.0 ((by_head v lt m.2.0).1 (u, m.2.1)) in
          inl (at.0, inl (m.2.0, at.1, (m.0, m.1, m.2.1, m.2.2, m.3, m.4, h, λ q. p.0 (share_back f to.framed k to.is_cell t to.toward v u q))))
      | inr p ↦
          let lt : v < f.graph.vertices = held_below f to.framed k to.is_cell t to.toward (part_toward f k t u) v p.1.2 in
          let turned : ShareCell f.cells (level_toward f.cells k t) v u = share_back f to.framed k to.is_cell t to.toward u v p.1 in
          let same : part_toward f k t u ≡ part_toward f k t v = sym (part_same f to.framed k to.is_cell t to.toward u v p.1) in
          let enter : IsEntry f.graph f.cells (part_toward f k t v) u = subst (λ (c : Cell). IsEntry f.graph f.cells c u) same p.2 in
          let exit : IsExit f.graph f.cells (part_toward f k t v) v = subst (λ (c : Cell). IsExit f.graph f.cells c v) same p.3 in
          let least : IsLeastInside ops f.graph w (Holds f.cells (part_toward f k t v)) u v s = subst (λ (c : Cell). IsLeastInside ops f.graph w (Holds f.cells c) u v s) same p.4 in
          let is_cell : IsCell f.cells (part_toward f k t v) = part_is_cell f to.framed k to.is_cell t to.toward v lt turned.0 in
          let at = get_Contains (at_cell f.entries (part_toward f k t v)) u ((to.framed.entries (part_toward f k t v) u is_cell).1 enter) in
          inl (length (arcs_to heads v) + at.0, inr (at.0, refl, (turned.0, exit, at.1, least)))
    ]

    over_from_back : (v u : ℕ) (s : C) → Holds f.cells k v → HasHop back v u s → Holds f.cells k u × OverHop cut u v s
    over_from_back v u s h o = elim o [
      | inl p ↦ elim p.1 [
        | inl a ↦ let q = a.2 in (q.6, inl (λ j. q.7 (share_back f to.framed k to.is_cell t to.toward u v j), (h, (q.0, q.1, (a.0, q.2, q.3), q.4, q.5))))
        | inr a ↦
            let q = a.2 in
            let lt : v < f.graph.vertices = held_below f to.framed k to.is_cell t to.toward k v h in
            let is_cell : IsCell f.cells (part_toward f k t v) = part_is_cell f to.framed k to.is_cell t to.toward v lt q.0 in
            let enter : IsEntry f.graph f.cells (part_toward f k t v) u = (to.framed.entries (part_toward f k t v) u is_cell).0 (Contains_get (at_cell f.entries (part_toward f k t v)) a.0 u q.2) in
            let shares : ShareCell f.cells (level_toward f.cells k t) v u = share_held f to.framed k to.is_cell t to.toward v u lt q.0 enter.0 in
            let same : part_toward f k t v ≡ part_toward f k t u = sym (part_same f to.framed k to.is_cell t to.toward v u shares) in
            let inside : Holds f.cells k u = to.toward.parts.inner v u shares h in (
              inside,
              inr (inside, share_back f to.framed k to.is_cell t to.toward v u shares, subst (λ (c : Cell). IsEntry f.graph f.cells c u) same enter, subst (λ (c : Cell). IsExit f.graph f.cells c v) same q.1, subst (λ (c : Cell). IsLeastInside ops f.graph w (Holds f.cells c) u v s) same q.3),
            )
      ]
      | inr p ↦ absurd p.2
    ]

    abbrev Inner : ℕ → ℕ → C → Type 0
    Inner u v s = Holds f.cells k u × OverHop cut u v s

    inner_valid : (u v : ℕ) (s : C) → Inner u v s → ops.valid s
    inner_valid u v s h = over_valid laws cut to.lawful.cut u v s h.1

    -- a chain over the parts, from a vertex of the cell to t, is a path backwards
    pub path_from_pass : (u z : ℕ) (d : C) (vs : List ℕ) → Holds f.cells k u → Passes ops cut u vs z d → (ws : List ℕ) × Path ops back z ops.zero ws u d
    path_from_pass u z d vs h p =
        let kept : Chain (Paying ops Inner) u ops.zero vs z d = Chain-keep (Paying ops (OverHop cut)) (Paying ops Inner) (Holds f.cells k) (λ a b c e i q. (over_inside a b q.0 i q.1, (q.0, (i, q.1), q.2))) u z ops.zero d vs h p in
        let turned = Chain-back laws inner_valid u z d vs kept in
        (turned.0, Chain-map (Paying ops (λ v u s. Inner u v s)) {T = StepBy ops back} (λ b a c e q. (q.0, back_from_over a b q.0 q.1.0 q.1.1, q.2)) z u ops.zero d turned.0 turned.1)

    -- and a path backwards from a vertex of the cell is a chain over the parts
    pub pass_from_path : (u z : ℕ) (d : C) (ws : List ℕ) → Holds f.cells k z → Path ops back z ops.zero ws u d → Holds f.cells k u × (vs : List ℕ) × Passes ops cut u vs z d
    pass_from_path u z d ws h p =
        let keeps : (b a : ℕ) (c e : C) → Holds f.cells k b → StepBy ops back b a c e → Holds f.cells k a × Paying ops (λ v u s. Inner u v s) b a c e = λ b a c e i q. let o = over_from_back b a q.0 i q.1 in (o.0, (q.0, o, q.2)) in
        let kept = Chain-keep (StepBy ops back) (Paying ops (λ v u s. Inner u v s)) (Holds f.cells k) keeps z u ops.zero d ws h p in
        let turned = Chain-back laws {Hop = λ v u s. Inner u v s} (λ b a s q. inner_valid a b s q) z u d ws kept in
        (Chain-stays (StepBy ops back) (Paying ops (λ v u s. Inner u v s)) (Holds f.cells k) keeps z u ops.zero d ws h p, turned.0, Chain-map (Paying ops Inner) {T = Paying ops (OverHop cut)} (λ a b c e q. (q.0, q.1.1, q.2)) u z ops.zero d turned.0 turned.1)
