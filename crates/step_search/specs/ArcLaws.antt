-- Laws of the arcs of a graph as a space: its hops are the moves of the graph's walks.
use Rattle.std.proofs.Common.{◌≡◌, ℕ, ◌+◌, ◌^◌, ◌<◌, inl, inr, List, Some, sym, ◌∙◌, subst}
use Rattle.std.proofs.lemmas.Option.{same_Some, slice_get_within}
use Rattle.list_lemmas.proofs.Sums.{two_within}
use Rattle.search_graph.specs.Costs.{CostOps, CostLaws}
use Rattle.search_graph.specs.Digraph.{Digraph, Weighting, IsOpen}
use Rattle.search_graph.specs.Walks.{Walk, IsMove, Paying}
use Rattle.search_graph.specs.Weighted.{IsWeighting}
use Rattle.search_graph.specs.ChainLaws.{Chain-map, Chain-valid}
use Rattle.search_graph.specs.OrderLaws.{same_from_le}
use Rattle.step_search.specs.Spaces.{HasHop, StepBy, Path, IsSpace}
use Rattle.step_search.specs.ArcSpace.{arc_space}

module _ {C : Type 0} (ops : CostOps C) (g : Digraph) (w : Weighting C) where
  -- an open vertex has one cost
  pub open_cost : (v : ℕ) (x y : C) → IsOpen w v x → IsOpen w v y → x ≡ y
  open_cost v x y e f = same_Some x y (same_Some (Some x) (Some y) (sym e ∙ f))

  -- a hop is a move, and a move a hop
  pub move_from_hop : (u v : ℕ) (s : C) → HasHop (arc_space ops g w) u v s → IsMove ops g w u v s
  move_from_hop u v s h = elim h [ inl p ↦ (p.1.0, p.1.1, (p.0, p.1.2, p.1.3), p.1.4, p.1.5) | inr p ↦ absurd p.2 ]

  pub hop_from_move : (u v : ℕ) (s : C) → IsMove ops g w u v s → HasHop (arc_space ops g w) u v s
  hop_from_move u v s h = inl (h.2.0, (h.0, h.1, h.2.1, h.2.2, h.3, h.4))

  pub walk_from_path : (u z : ℕ) (c d : C) (vs : List ℕ) → Path ops (arc_space ops g w) u c vs z d → Walk ops g w u c vs z d
  walk_from_path = Chain-map (StepBy ops (arc_space ops g w)) {T = Paying ops (IsMove ops g w)} (λ u v c d h. (h.0, move_from_hop u v h.0 h.1, h.2))

  pub path_from_walk : (u z : ℕ) (c d : C) (vs : List ℕ) → Walk ops g w u c vs z d → Path ops (arc_space ops g w) u c vs z d
  path_from_walk = Chain-map (Paying ops (IsMove ops g w)) {T = StepBy ops (arc_space ops g w)} (λ u v c d h. (h.0, hop_from_move u v h.0 h.1, h.2))

  -- a graph with its weights is a space
  pub IsSpace-arcs : CostLaws ops → IsWeighting ops g w → IsSpace ops (arc_space ops g w)
  IsSpace-arcs laws h = record {
    heads = λ u v s p.
        let m = move_from_hop u v s p in
        subst (λ (n : ℕ). v < n) h.vertices (slice_get_within w.vertex v (Some m.1) m.3);
    hop_units = λ u v s p.
        let m = move_from_hop u v s p in
        subst (λ x. ops.units x (2 ^ 29)) (sym m.4)
        (laws.units_more (ops.plus m.0 m.1) (2 ^ 28 + 2 ^ 28) (2 ^ 29) (laws.plus_units m.0 m.1 (2 ^ 28) (2 ^ 28) (h.arc_units m.2.0 m.0 m.2.2) (h.vertex_units v m.1 m.3)) two_within);
    least_units = λ u z d vs may p least.
        let r = h.walk_units u z may.0 d vs may.1 (walk_from_path u z ops.zero d vs p) in
        let valid : (u v : ℕ) (s : C) → IsMove ops g w u v s → ops.valid s =
        λ u v s m. subst ops.valid (sym m.4) (laws.plus_valid m.0 m.1 (laws.units_valid m.0 (2 ^ 28) (h.arc_units m.2.0 m.0 m.2.2)) (laws.units_valid m.1 (2 ^ 28) (h.vertex_units v m.1 m.3))) in
        let vd : ops.valid d = Chain-valid laws valid u z ops.zero d vs laws.zero_valid (walk_from_path u z ops.zero d vs p) in
        let same : r.1 ≡ d = same_from_le laws r.1 d (laws.units_valid r.1 (2 ^ 28) r.4) vd r.3 (least r.0 r.1 (path_from_walk u z ops.zero r.1 r.0 r.2)) in
        subst (λ x. ops.units x (2 ^ 28)) same r.4;
  }
