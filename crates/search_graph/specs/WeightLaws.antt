-- Laws of small weights: a search takes them, and what a least walk over them costs grows with the number of vertices alone.
use Rattle.std.proofs.Common.{◌≡◌, ℕ, ◌+◌, ◌*◌, ◌^◌, ◌<◌, ◌≤◌, List, ◌∷◌, ◌++◌, [], length, Option, Some, All, sym, subst, refl}
use Rattle.std.specs.Option.{ForSome}
use Rattle.std.specs.List.{Contains}
use Rattle.std.proofs.lemmas.Option.{slice_get_within}
use Rattle.list_lemmas.proofs.Gets.{All_get}
use Rattle.list_lemmas.proofs.Sums.{twos_within, twos_and_three, one_within}
use Rattle.search_graph.specs.declared.ends.Start.{Start}
use Rattle.search_graph.specs.declared.ends.Target.{Target}
use Rattle.search_graph.specs.Costs.{CostOps, CostLaws, NoDearer}
use Rattle.search_graph.specs.Digraph.{Digraph, Weighting, IsOpen}
use Rattle.search_graph.specs.Walks.{IsMove, IsBetween, IsLeastWalk}
use Rattle.search_graph.specs.Weighted.{IsWeighting, AreSmall}
use Rattle.search_graph.specs.OrderLaws.{plus_le, plus_le_left, same_from_le}
use Rattle.search_graph.specs.ChainLaws.{Chain-valid, Chain-from_zero, Chain-to_more, Chain-short}

-- lists of which each cost is within one unit are small weights
pub small_from_lists : {C : Type 0} (ops : CostOps C) (g : Digraph) (vertex : List (Option C)) (arc : List C) → g.vertices ≤ 2 ^ 27 → length vertex ≡ g.vertices → length arc ≡ length g.arcs →
    All (λ o. ForSome o (λ x. ops.units x 1)) vertex → All (λ a. ops.units a 1) arc → AreSmall ops g (record { vertex = vertex; arc = arc })
small_from_lists ops g vertex arc few vertices arcs vertex_unit arc_unit = record {
  few = few;
  vertices = vertices;
  arcs = arcs;
  vertex_unit = λ v x o. All_get (λ m. ForSome m (λ y. ops.units y 1)) vertex v (Some x) vertex_unit o x refl;
  arc_unit = λ i a e. All_get (λ y. ops.units y 1) arc i a arc_unit e;
}

module _ {C : Type 0} {ops : CostOps C} (laws : CostLaws ops) (g : Digraph) (w : Weighting C) (small : AreSmall ops g w) where
  -- a move costs an arc and a vertex
  pub small_move_units : (u v : ℕ) (s : C) → IsMove ops g w u v s → ops.units s 2
  small_move_units u v s h = subst (λ x. ops.units x 2) (sym h.4) (laws.plus_units h.0 h.1 1 1 (small.arc_unit h.2.0 h.0 h.2.2) (small.vertex_unit v h.1 h.3))

  pub move_valid : (u v : ℕ) (s : C) → IsMove ops g w u v s → ops.valid s
  move_valid u v s m = laws.units_valid s 2 (small_move_units u v s m)

  -- an open vertex is one of the graph's
  pub open_below : (v : ℕ) (x : C) → IsOpen w v x → v < g.vertices
  open_below v x o = subst (λ (n : ℕ). v < n) small.vertices (slice_get_within w.vertex v (Some x) o)

  pub move_below : (u v : ℕ) (s : C) → IsMove ops g w u v s → v < g.vertices
  move_below u v s m = open_below v m.1 m.3

  -- small weights are a weighting
  pub small_is_weighting : IsWeighting ops g w
  small_is_weighting = record {
    vertices = small.vertices;
    arcs = small.arcs;
    vertex_units = λ v x o. laws.units_more x 1 (2 ^ 28) (small.vertex_unit v x o) one_within;
    arc_units = λ i a e. laws.units_more a 1 (2 ^ 28) (small.arc_unit i a e) one_within;
    walk_units = λ u z x d vs o h.
        let r = Chain-short laws move_valid g.vertices 2 move_below small_move_units u z d vs (open_below u x o) h in
        (r.0, r.1, r.2, r.3, laws.units_more r.1 (length r.0 * 2) (2 ^ 28) r.5 (twos_within g.vertices (length r.0) small.few r.4));
  }

  module _ (starts : List (Start C)) (t : Target C) (units : (s : Start C) → Contains starts s → ops.units s.cost 1) (unit : ops.units t.cost 1) where
    -- A least walk meets no vertex twice on its way: between n vertices it pays its start, at most n - 1 moves of two units
    -- each, the arc to its target and its target.
    pub least_walk_units : (walk : List ℕ) (d : C) → IsLeastWalk ops g w starts t walk d → ops.units d (2 * g.vertices + 1)
    least_walk_units walk d h =
        let p = h.leads in
        let c : C = p.start.cost in
        let a : C = p.arc in
        let b : C = t.cost in
        let uc : ops.units c 1 = units p.start p.among in
        let ua : ops.units a 1 = small.arc_unit p.joins.0 a p.joins.2 in
        let vc : ops.valid c = laws.units_valid c 1 uc in
        let va : ops.valid a = laws.units_valid a 1 ua in
        let vb : ops.valid b = laws.units_valid b 1 unit in
        let rest = Chain-from_zero laws move_valid p.start.vertex p.last c p.paid p.middle vc p.goes in
        let vr : ops.valid rest.0 = Chain-valid laws move_valid p.start.vertex p.last ops.zero rest.0 p.middle laws.zero_valid rest.1 in
        let r = Chain-short laws move_valid g.vertices 2 move_below small_move_units p.start.vertex p.last rest.0 p.middle (open_below p.start.vertex p.start_open.0 p.start_open.1) rest.1 in
        let e : C = r.1 in
        let ve : ops.valid e = Chain-valid laws move_valid p.start.vertex p.last ops.zero e r.0 laws.zero_valid r.2 in
        let vce : ops.valid (ops.plus c e) = laws.plus_valid c e vc ve in
        let other : IsBetween ops g w starts t (p.start.vertex ∷ (r.0 ++ t.vertex ∷ [])) (ops.plus (ops.plus (ops.plus c e) a) b) = record {
          start = p.start;
          among = p.among;
          start_open = p.start_open;
          middle = r.0;
          last = p.last;
          paid = ops.plus c e;
          goes = Chain-to_more laws move_valid p.start.vertex p.last c e r.0 vc r.2;
          arc = a;
          joins = p.joins;
          target_open = p.target_open;
          is_walk = refl;
          is_cost = refl;
        } in
        let up : NoDearer ops d (ops.plus (ops.plus (ops.plus c e) a) b) = h.least _ _ other in
        let first : NoDearer ops (ops.plus c e) p.paid = subst (λ x. NoDearer ops (ops.plus c e) x) (sym rest.2) (plus_le_left laws e rest.0 c ve vr vc r.3) in
        let vp : ops.valid p.paid = subst ops.valid (sym rest.2) (laws.plus_valid c rest.0 vc vr) in
        let second : NoDearer ops (ops.plus (ops.plus c e) a) (ops.plus p.paid a) = plus_le laws (ops.plus c e) p.paid a vce vp va first in
        let v1 : ops.valid (ops.plus (ops.plus c e) a) = laws.plus_valid (ops.plus c e) a vce va in
        let v2 : ops.valid (ops.plus p.paid a) = laws.plus_valid p.paid a vp va in
        let down : NoDearer ops (ops.plus (ops.plus (ops.plus c e) a) b) d = subst (λ x. NoDearer ops (ops.plus (ops.plus (ops.plus c e) a) b) x) (sym p.is_cost) (plus_le laws (ops.plus (ops.plus c e) a) (ops.plus p.paid a) b v1 v2 vb second) in
        let vd : ops.valid d = subst ops.valid (sym p.is_cost) (laws.plus_valid (ops.plus p.paid a) b v2 vb) in
        let same : ops.plus (ops.plus (ops.plus c e) a) b ≡ d = same_from_le laws _ d (laws.plus_valid (ops.plus (ops.plus c e) a) b v1 vb) vd down up in
        let sum : ops.units (ops.plus (ops.plus (ops.plus c e) a) b) (1 + length r.0 * 2 + 1 + 1) = laws.plus_units _ b _ 1 (laws.plus_units _ a _ 1 (laws.plus_units c e 1 (length r.0 * 2) uc r.5) ua) unit in
        subst (λ x. ops.units x (2 * g.vertices + 1)) same (laws.units_more _ (1 + length r.0 * 2 + 1 + 1) (2 * g.vertices + 1) sum (twos_and_three g.vertices (length r.0) r.4))
