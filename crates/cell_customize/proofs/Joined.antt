-- Inside a cell the leaps are lawful: shortcuts keep the triangle inequality, and sums of two of its hops fit.
use Rattle.std.proofs.Common.{◌≡◌, ℕ, ◌+◌, ◌*◌, ◌-◌, ◌^◌, ◌<◌, ◌≤◌, inl, inr, List, ◌++◌, length, sym, ◌∙◌, subst, arith}
use Rattle.std.proofs.Math.Nat.{mul-le-mul_right}
use Rattle.std.proofs.lemmas.Option.{same_Some}
use Rattle.search_graph.specs.Costs.{CostOps, CostLaws, NoDearer}
use Rattle.search_graph.specs.Digraph.{Weighting}
use Rattle.search_graph.specs.Walks.{Chain, Paying}
use Rattle.search_graph.specs.OrderLaws.{le_trans, same_from_le}
use Rattle.search_graph.specs.ChainLaws.{Chain-append, Chain-to_more, Chain-valid}
use Rattle.step_search.specs.Spaces.{Space, Path, IsLeastCost}
use Rattle.cut_walks.specs.Cut.{Cut, IsSmall, RunHop, Passes, Runs, MayEnd}
use Rattle.cut_walks.specs.Cutting.{run_valid, over_valid, goes_from_pass, pass_from_goes}
use Rattle.cut_walks.specs.Bounds.{Chain-few, pass_from_path, path_from_pass}
use Rattle.cell_frame.specs.declared.cells.Cell.{Cell}
use Rattle.cell_frame.specs.Borders.{Framed, Holds}
use Rattle.cell_frame.specs.Cliqued.{CliqueLists}
use Rattle.cell_frame.specs.Parts.{part_cut}
use Rattle.cell_customize.specs.Inner.{inner_space, IsInner}
use Rattle.cell_customize.specs.Leaping.{ArcHop, RowHop, IsJoinable}

module _ {C : Type 0} {ops : CostOps C} (laws : CostLaws ops) (f : Framed) (w : Weighting C) (cliques : CliqueLists C) (k : Cell) (inner : IsInner ops f w cliques k) where
  abbrev K : Cut C
  K = part_cut ops f.graph f.cells w (Holds f.cells k) (λ v. k.level - 1)

  abbrev S : Space C
  S = inner_space ops f w k

  held : (c : Cell) (v : ℕ) → Holds f.cells c v → v < f.graph.vertices
  held c v h = let lt : v < f.cells.vertices = h.0 in let n : f.cells.vertices ≡ f.graph.vertices = inner.framed.vertices in omega (arith, lt, n)

  small : IsSmall ops K f.graph.vertices
  small = record {
    few = inner.small.few;
    units = λ u v s h.
        let both : ops.units (ops.plus h.1.0 h.1.1) (1 + 1) = laws.plus_units h.1.0 h.1.1 1 1 (inner.small.arc_unit h.1.2.0 h.1.0 h.1.2.2) (inner.small.vertex_unit v h.1.1 h.1.3) in
        subst (λ x. ops.units x 2) (sym h.1.4) (laws.units_more (ops.plus h.1.0 h.1.1) (1 + 1) 2 both (omega arith));
    heads = λ u v s h. held k v h.0;
    within = λ u v s h. held _ v h.1.2;
  }

  -- a place of a row is a shortcut
  shortcut_of : (u v : ℕ) (s : C) → RowHop S u v s → K.Shortcut u v s
  shortcut_of u v s h = subst (λ (x : ℕ). K.Shortcut u x s) (same_Some h.2.0 v (sym h.2.1 ∙ h.1)) h.2.2

  -- and a shortcut a place of a row
  row_of : (u v : ℕ) (s : C) → K.Shortcut u v s → RowHop S u v s
  row_of u v s h = elim ((inner.lawful.over u v s).1 (inr h)) [
    | inl p ↦ absurd (p.1.9 h.1)
    | inr p ↦ p
  ]

  -- an arc is a move, from one part to another
  move_of : (u v : ℕ) (s : C) → ArcHop S u v s → K.Hop u v s
  move_of u v s p = (p.1.8, (p.1.1, p.1.2, (p.1.0, p.1.4, p.1.5), p.1.6, p.1.7))

  shortcut_units : (u v : ℕ) (s : C) → K.Shortcut u v s → ops.units s (f.graph.vertices * 2)
  shortcut_units u v s h =
      let n : ℕ = f.graph.vertices in
      let run = inner.lawful.cut.stands u v s h in
      let r = Chain-few laws {Hop = RunHop K} f.graph.vertices (λ u v s p. small.heads u v s p.1) (λ u v s p. small.units u v s p.1) u v s run.0 run.1 in
      let ve : ops.valid r.1 = laws.units_valid r.1 (length r.0 * 2) r.4 in
      let vs : ops.valid s = over_valid laws K inner.lawful.cut u v s (inr h) in
      let same : r.1 ≡ s = same_from_le laws r.1 s ve vs r.3 (inner.lawful.cut.least u v s r.1 r.0 h r.2) in
      laws.units_more s (length r.0 * 2) (f.graph.vertices * 2) (subst (λ x. ops.units x (length r.0 * 2)) same r.4) (mul-le-mul_right 2 r.5)

  triangle_here : (u x v : ℕ) (s t : C) → RowHop S u x s → RowHop S x v t → (r : C) × RowHop S u v r × NoDearer ops r (ops.plus s t)
  triangle_here u x v s t first second =
      let cut = inner.lawful.cut in
      let a = shortcut_of u x s first in
      let b = shortcut_of x v t second in
      let one = cut.stands u x s a in
      let two = cut.stands x v t b in
      let vs : ops.valid s = over_valid laws K cut u x s (inr a) in
      let on : Chain (Paying ops (RunHop K)) x s two.0 v (ops.plus s t) = Chain-to_more laws (run_valid laws K cut) x v s t two.0 vs two.1 in
      let run : Runs ops K u (one.0 ++ two.0) v (ops.plus s t) = Chain-append (Paying ops (RunHop K)) u x v ops.zero s (ops.plus s t) one.0 two.0 one.1 on in
      let joined : K.Joined u v = cut.along u x v (cut.joins u x s a).0 (cut.joins x v t b).0 in
      let short = cut.covers u v (ops.plus s t) (one.0 ++ two.0) (a.0, a.4.leads.opens.0, a.4.leads.opens.1) a.2 (cut.joins x v t b).1 joined run in
      (short.0, row_of u v short.0 short.1, cut.least u v short.0 (ops.plus s t) (one.0 ++ two.0) short.1 run)

  beyond_here : (u x v : ℕ) (s t : C) → RowHop S u x s → ArcHop S x v t → ops.units (ops.plus s t) (2 ^ 29)
  beyond_here u x v s t first second =
      let few : f.graph.vertices ≤ 2 ^ 27 = inner.small.few in
      laws.units_more (ops.plus s t) (f.graph.vertices * 2 + 2) (2 ^ 29)
      (laws.plus_units s t (f.graph.vertices * 2) 2 (shortcut_units u x s (shortcut_of u x s first)) (small.units x v t (move_of x v t second))) (omega (arith, few))

  -- where a path leaves a part, the least is what a chain over the whole pays that has fewer hops than there are vertices
  behind_here : (u x v : ℕ) (c t : C) (vs : List ℕ) → S.May u → Path ops S u ops.zero vs x c → IsLeastCost ops S u x c → ArcHop S x v t → ops.units (ops.plus c t) (2 ^ 28)
  behind_here u x v c t vs may path least arc =
      let cut = inner.lawful.cut in
      let few : f.graph.vertices ≤ 2 ^ 27 = inner.small.few in
      let move : K.Hop x v t = move_of x v t arc in
      let ends : MayEnd K x = elim (cut.joined_or_not x x) [ inl j ↦ inr (cut.leaves x v t move arc.1.9 j) | inr a ↦ inl a ] in
      let pass : Passes ops K u vs x c = pass_from_path laws K cut S inner.lawful.over u x ops.zero c vs path in
      let vc : ops.valid c = Chain-valid laws (over_valid laws K cut) u x ops.zero c vs laws.zero_valid pass in
      let goes = goes_from_pass laws K cut u x ops.zero c vs laws.zero_valid pass in
      let r = Chain-few laws {Hop = K.Hop} f.graph.vertices small.heads small.units u x c goes.0 goes.1 in
      let ve : ops.valid r.1 = laws.units_valid r.1 (length r.0 * 2) r.4 in
      let p = pass_from_goes laws K cut u x r.1 r.0 (inner.lawful.begins u may) ends r.2 in
      let other : Path ops S u ops.zero p.0 x p.1 = path_from_pass laws K cut S inner.lawful.over u x ops.zero p.1 p.0 p.2 in
      let le : NoDearer ops c r.1 = le_trans laws c p.1 r.1 (least p.0 p.1 other) p.3 in
      let same : r.1 ≡ c = same_from_le laws r.1 c ve vc r.3 le in
      let here : ops.units c (length r.0 * 2) = subst (λ y. ops.units y (length r.0 * 2)) same r.4 in
      let fewer : length r.0 < f.graph.vertices = r.6 may.0 in
      laws.units_more (ops.plus c t) (length r.0 * 2 + 2) (2 ^ 28) (laws.plus_units c t (length r.0 * 2) 2 here (small.units x v t move)) (omega (arith, fewer, few))

  pub IsJoinable-inner : IsJoinable ops (inner_space ops f w k)
  IsJoinable-inner = record { triangle = triangle_here; beyond_units = beyond_here; behind_units = behind_here }
