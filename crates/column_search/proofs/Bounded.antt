-- What is gone over backwards can be searched: over the parts what a least chain to the target pays is small.
use Rattle.std.proofs.Common.{◌≡◌, ℕ, ◌+◌, ◌*◌, ◌^◌, ◌<◌, ◌≤◌, inl, inr, List, [], ◌∷◌, length, sym, subst, arith}
use Rattle.list_lemmas.proofs.Gets.{Contains_get}
use Rattle.search_graph.specs.Costs.{CostOps, CostLaws, NoDearer}
use Rattle.search_graph.specs.Digraph.{Digraph, Weighting}
use Rattle.search_graph.specs.Weighted.{AreSmall}
use Rattle.search_graph.specs.Walks.{Chain, Paying}
use Rattle.search_graph.specs.OrderLaws.{le_trans, same_from_le, plus_le_back}
use Rattle.search_graph.specs.ChainLaws.{Chain-valid, Chain-from_zero, Chain-to_more}
use Rattle.search_graph.specs.WeightLaws.{small_move_units, move_valid, move_below}
use Rattle.step_search.specs.Spaces.{HasHop, Path, IsSpace, IsLeastCost}
use Rattle.cut_walks.specs.Cut.{Cut, OverHop, Passes, MayBegin, MayEnd}
use Rattle.cut_walks.specs.Cutting.{over_valid, goes_from_pass, pass_from_goes, entered_begins}
use Rattle.cut_walks.specs.Bounds.{Chain-few}
use Rattle.cell_frame.specs.declared.cells.Cell.{Cell}
use Rattle.cell_frame.specs.Borders.{Framed, Holds, IsCell, IsEntry, at_cell}
use Rattle.cell_frame.specs.Cliqued.{CliqueLists}
use Rattle.cell_frame.specs.Inside.{IsMoveIn, IsLeastInside}
use Rattle.cell_frame.specs.Parts.{ShareCell}
use Rattle.column_search.specs.Toward.{level_toward, IsToward}
use Rattle.column_search.specs.Backward.{part_toward, toward_cut, back_space}
use Rattle.column_search.proofs.Parting.{held_below, part_is_cell}
use Rattle.column_search.proofs.Turning.{AreTo, path_from_pass, pass_from_path}

module _ {C : Type 0} {ops : CostOps C} (laws : CostLaws ops) (g : Digraph) (w : Weighting C) (small : AreSmall ops g w) (In : ℕ → Type 0) where
  -- a least cost inside is what a walk pays that meets no vertex twice
  pub inside_units : (u v : ℕ) (s : C) → IsLeastInside ops g w In u v s → ops.units s (g.vertices * 2)
  inside_units u v s h =
      let r = Chain-few laws {Hop = IsMoveIn ops g w In} g.vertices (λ a b c m. move_below laws g w small a b c m.1) (λ a b c m. small_move_units laws g w small a b c m.1) u v s h.walk h.leads.goes in
      let vr : ops.valid r.1 = laws.units_valid r.1 (length r.0 * 2) r.4 in
      let vs : ops.valid s = Chain-valid laws {Hop = IsMoveIn ops g w In} (λ a b c m. move_valid laws g w small a b c m.1) u v ops.zero s h.walk laws.zero_valid h.leads.goes in
      let same : r.1 ≡ s = same_from_le laws r.1 s vr vs r.3 (h.least r.0 r.1 (record { begins = h.leads.begins; opens = h.leads.opens; goes = r.2 })) in
      let some : length r.0 ≤ g.vertices = r.5 in
      laws.units_more s (length r.0 * 2) (g.vertices * 2) (subst (λ x. ops.units x (length r.0 * 2)) same r.4) (omega arith)

-- no chain over the parts of the same ends is cheaper than d
abbrev IsLeastPass : {C : Type 0} → CostOps C → Cut C → ℕ → ℕ → C → Type 0
IsLeastPass {C} ops K u z d = (vs : List ℕ) (e : C) → Passes ops K u vs z e → NoDearer ops d e

module _ {C : Type 0} {ops : CostOps C} (laws : CostLaws ops) (f : Framed) (w : Weighting C) (cliques : CliqueLists C) (k : Cell) (t : ℕ) (to : IsToward ops f w cliques k t) where
  abbrev cut : Cut C
  cut = toward_cut ops f w k t

  pass_valid : (u v : ℕ) (s : C) → OverHop cut u v s → ops.valid s
  pass_valid u v s h = over_valid laws cut to.lawful.cut u v s h

  -- a chain may end at t, which is alone
  pub ends : MayEnd cut t
  ends = inl (λ (j : ShareCell f.cells (level_toward f.cells k t) t t). let some : 1 ≤ level_toward f.cells k t t = j.0 in let none : level_toward f.cells k t t ≡ 0 = to.toward.alone in omega arith)

  -- from where a chain may begin, the least is what a chain over the whole pays that has fewer than n hops
  ended_units : (u : ℕ) (d : C) (vs : List ℕ) → u < f.graph.vertices → MayBegin cut u → Passes ops cut u vs t d → IsLeastPass ops cut u t d → (m : ℕ) × (m < f.graph.vertices) × ops.units d (m * 2)
  ended_units u d vs lt b h least =
      let g = goes_from_pass laws cut to.lawful.cut u t ops.zero d vs laws.zero_valid h in
      let r = Chain-few laws {Hop = cut.Hop} f.graph.vertices (λ a b c m. move_below laws f.graph w to.small a b c m.1) (λ a b c m. small_move_units laws f.graph w to.small a b c m.1) u t d g.0 g.1 in
      let p = pass_from_goes laws cut to.lawful.cut u t r.1 r.0 b ends r.2 in
      let vr : ops.valid r.1 = laws.units_valid r.1 (length r.0 * 2) r.4 in
      let vd : ops.valid d = Chain-valid laws pass_valid u t ops.zero d vs laws.zero_valid h in
      let le : NoDearer ops d r.1 = le_trans laws d p.1 r.1 (least p.0 p.1 p.2) p.3 in
      let same : r.1 ≡ d = same_from_le laws r.1 d vr vd r.3 le in
      (length r.0, r.6 lt, subst (λ x. ops.units x (length r.0 * 2)) same r.4)

  -- one hop before it takes two units more
  behind_units : (z v : ℕ) (s c d : C) (vs : List ℕ) → (¬ cut.Joined z v) → cut.Hop z v s → c ≡ ops.plus ops.zero s → Chain (Paying ops (OverHop cut)) v c vs t d → IsLeastPass ops cut z t d → ops.units d (f.graph.vertices * 2)
  behind_units z v s c d vs n hop e h least =
      let two : ops.units c (0 + 2) = subst (λ x. ops.units x (0 + 2)) (sym e) (laws.plus_units ops.zero s 0 2 laws.zero_units (small_move_units laws f.graph w to.small z v s hop.1)) in
      let vc : ops.valid c = laws.units_valid c (0 + 2) two in
      let rest = Chain-from_zero laws pass_valid v t c d vs vc h in
      let vr : ops.valid rest.0 = Chain-valid laws pass_valid v t ops.zero rest.0 vs laws.zero_valid rest.1 in
      let best : IsLeastPass ops cut v t rest.0 = λ ws x q.
      let vx : ops.valid x = Chain-valid laws pass_valid v t ops.zero x ws laws.zero_valid q in
      let on : Passes ops cut z (v ∷ ws) t (ops.plus c x) = (c, (s, inl (n, hop), e), Chain-to_more laws pass_valid v t c x ws vc q) in
      let le : NoDearer ops (ops.plus c rest.0) (ops.plus c x) = subst (λ y. NoDearer ops y (ops.plus c x)) rest.2 (least (v ∷ ws) (ops.plus c x) on) in
      plus_le_back laws rest.0 x c vr vx vc (subst (λ y. NoDearer ops y (ops.plus x c)) (laws.comm c rest.0 vc vr) (subst (λ y. NoDearer ops (ops.plus c rest.0) y) (laws.comm c x vc vx) le)) in
      let r = ended_units v rest.0 vs (move_below laws f.graph w to.small z v s hop.1) (entered_begins laws cut to.lawful.cut z v s n hop) rest.1 best in
      let m : ℕ = r.0 in
      let fewer : m < f.graph.vertices = r.1 in
      laws.units_more d ((0 + 2) + m * 2) (f.graph.vertices * 2) (subst (λ x. ops.units x ((0 + 2) + m * 2)) (sym rest.2) (laws.plus_units c rest.0 (0 + 2) (m * 2) two r.2)) (omega arith)

  -- what a least chain over the parts to t pays, from any vertex of the cell
  pass_units : (z : ℕ) (d : C) (vs : List ℕ) → Passes ops cut z vs t d → IsLeastPass ops cut z t d → ops.units d (f.graph.vertices * 2)
  pass_units z d [] h least = subst (λ x. ops.units x (f.graph.vertices * 2)) (sym h.1) (laws.units_more ops.zero 0 (f.graph.vertices * 2) laws.zero_units (omega arith))
  pass_units z d (v ∷ vs) h least = elim h.1.1 [
    | inl p ↦ behind_units z v h.1.0 h.0 d vs p.0 p.1 h.1.2 h.2 least
    | inr p ↦
        let r = ended_units z d (v ∷ vs) (held_below f to.framed k to.is_cell t to.toward k z p.0) ((p.0, p.4.leads.opens.0, p.4.leads.opens.1), inr ((p.1.0, p.1.1, p.1.1), p.2)) h least in
        let m : ℕ = r.0 in
        let fewer : m < f.graph.vertices = r.1 in
        laws.units_more d (m * 2) (f.graph.vertices * 2) r.2 (omega arith)
  ]

  module _ (heads : List (List ℕ)) (by_head : AreTo f.graph heads) where
    back_heads : (v u : ℕ) (s : C) → HasHop (back_space ops f w k t heads) v u s → u < f.graph.vertices
    back_heads v u s h = elim h [
      | inl p ↦ elim p.1 [
        | inl a ↦ held_below f to.framed k to.is_cell t to.toward k u a.2.6
        | inr a ↦
            let lt : v < f.graph.vertices = held_below f to.framed k to.is_cell t to.toward (part_toward f k t v) v a.2.1.0 in
            let is_cell : IsCell f.cells (part_toward f k t v) = part_is_cell f to.framed k to.is_cell t to.toward v lt a.2.0 in
            let enter : IsEntry f.graph f.cells (part_toward f k t v) u = (to.framed.entries (part_toward f k t v) u is_cell).0 (Contains_get (at_cell f.entries (part_toward f k t v)) a.0 u a.2.2) in
            held_below f to.framed k to.is_cell t to.toward (part_toward f k t v) u enter.0
      ]
      | inr p ↦ absurd p.2
    ]

    back_units : (v u : ℕ) (s : C) → HasHop (back_space ops f w k t heads) v u s → ops.units s (2 ^ 29)
    back_units v u s h = elim h [
      | inl p ↦ elim p.1 [
        | inl a ↦ let q = a.2 in laws.units_more s 2 (2 ^ 29) (small_move_units laws f.graph w to.small u v s (q.0, q.1, (a.0, q.2, q.3), q.4, q.5)) (omega arith)
        | inr a ↦ let few = to.small.few in laws.units_more s (f.graph.vertices * 2) (2 ^ 29) (inside_units laws f.graph w to.small (Holds f.cells (part_toward f k t v)) u v s a.2.3) (omega arith)
      ]
      | inr p ↦ absurd p.2
    ]

    back_least : (z : ℕ) (d : C) (ws : List ℕ) → Path ops (back_space ops f w k t heads) t ops.zero ws z d → IsLeastCost ops (back_space ops f w k t heads) t z d → ops.units d (2 ^ 28)
    back_least z d ws h least =
        let few = to.small.few in
        let p = pass_from_path laws f w cliques k t to heads by_head z t d ws to.held h in
        let best : IsLeastPass ops cut z t d = λ vs e q. let back = path_from_pass laws f w cliques k t to heads by_head z t e vs p.0 q in least back.0 e back.1 in
        laws.units_more d (f.graph.vertices * 2) (2 ^ 28) (pass_units z d p.1 p.2 best) (omega arith)

    pub IsSpace-back : IsSpace ops (back_space ops f w k t heads)
    IsSpace-back = record {
      heads = back_heads;
      hop_units = back_units;
      least_units = λ u z d vs m h least.
          back_least z d vs (subst (λ (x : ℕ). Path ops (back_space ops f w k t heads) x ops.zero vs z d) m h) (subst (λ (x : ℕ). IsLeastCost ops (back_space ops f w k t heads) x z d) m least);
    }
