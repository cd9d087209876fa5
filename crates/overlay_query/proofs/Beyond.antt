-- Where each path over the parts to a target's vertex costs a limit or more, so does each over the graph, and each walk to the
-- target costs what is left of the limit without the vertex's cost.
use Rattle.std.proofs.Common.{◌≡◌, ℕ, List, [], ◌∷◌, ◌++◌, inl, inr, refl, sym, subst}
use Rattle.std.specs.List.{Contains}
use Rattle.search_graph.specs.Costs.{CostOps, CostLaws, NoDearer}
use Rattle.search_graph.specs.declared.ends.Start.{Start}
use Rattle.search_graph.specs.declared.ends.Target.{Target}
use Rattle.search_graph.specs.Digraph.{Digraph, Weighting, IsOpen}
use Rattle.search_graph.specs.Walks.{Chain, Paying, IsBetween, IsMove}
use Rattle.search_graph.specs.Weighted.{AreSmall}
use Rattle.search_graph.specs.OrderLaws.{le_trans, plus_le_left, plus_le_back, plus_grows}
use Rattle.search_graph.specs.ChainLaws.{Chain-push, Chain-map, Chain-valid, Chain-from_zero, Chain-to_more}
use Rattle.step_search.specs.Spaces.{Space, StepBy}
use Rattle.step_search.specs.Paths.{IsPathTo, IsBeyond}
use Rattle.step_search.specs.ArcSpace.{arc_space}
use Rattle.step_search.specs.ArcLaws.{hop_from_move, path_from_walk}
use Rattle.cut_walks.specs.Cut.{Cut, IsCut, OverHop, Goes, Passes, MayEnd, IsWhole, IsOver, AreAlone}
use Rattle.cut_walks.specs.Cutting.{over_valid, pass_from_goes, entered_begins}
use Rattle.cut_walks.specs.Bounds.{Chain-ends, path_from_pass}

cons_nil : (x : ℕ) (xs : List ℕ) → x ∷ xs ≡ [] → ⊥
cons_nil x xs e = cc

module _ {C : Type 0} {ops : CostOps C} (laws : CostLaws ops) (K : Cut C) (cut : IsCut ops K) where
  -- from a vertex that is alone, a chain of one hop or more is matched by one of one hop or more
  pass_on : (u z : ℕ) (d : C) (v : ℕ) (vs : List ℕ) → (¬ K.Joined u u) → MayEnd K z → Goes ops K u (v ∷ vs) z d → (ws : List ℕ) × (f : C) × Passes ops K u (v ∷ ws) z f × NoDearer ops f d
  pass_on u z d v vs alone m h =
      let s : C = h.1.0 in
      let hop : K.Hop u v s = h.1.1 in
      let vs0 : ops.valid s = cut.valid u v s hop in
      let vn : ops.valid h.0 = subst ops.valid (sym h.1.2) (laws.plus_valid ops.zero s laws.zero_valid vs0) in
      let apart : ¬ K.Joined u v = λ j. alone (cut.along u v u j (cut.back u v j)) in
      let rest = Chain-from_zero laws cut.valid v z h.0 d vs vn h.2 in
      let on = pass_from_goes laws K cut v z rest.0 vs (entered_begins laws K cut u v s apart hop) m rest.1 in
      let vo : ops.valid on.1 = Chain-valid laws (over_valid laws K cut) v z ops.zero on.1 on.0 laws.zero_valid on.2 in
      let vr : ops.valid rest.0 = Chain-valid laws cut.valid v z ops.zero rest.0 vs laws.zero_valid rest.1 in (
        on.0,
        ops.plus h.0 on.1,
        (h.0, (s, inl (apart, hop), h.1.2), Chain-to_more laws (over_valid laws K cut) v z h.0 on.1 on.0 vn on.2),
        subst (λ x. NoDearer ops (ops.plus h.0 on.1) x) (sym rest.2) (plus_le_left laws on.1 rest.0 h.0 vo vr vn on.3),
      )

  pass_to : (u z : ℕ) (d : C) (m : List ℕ) → (¬ K.Joined u u) → MayEnd K z → Goes ops K u (m ++ z ∷ []) z d → (v : ℕ) × (ws : List ℕ) × (f : C) × Passes ops K u (v ∷ ws) z f × NoDearer ops f d
  pass_to u z d [] alone e h = let r = pass_on u z d z [] alone e h in (z, r.0, r.1, r.2, r.3)
  pass_to u z d (v ∷ vs) alone e h = let r = pass_on u z d v (vs ++ z ∷ []) alone e h in (v, r.0, r.1, r.2, r.3)

  module _ (over : Space C) (is_over : IsOver K over) (whole : Space C) (is_whole : IsWhole K whole) (starts : List (Start C)) (t : ℕ) (alone : AreAlone ops K over whole starts t) where
    -- a path over the whole is matched by one over the parts that is no dearer
    path_over : (other : List ℕ) (e : C) → IsPathTo ops whole starts t other e → (walk : List ℕ) × (f : C) × IsPathTo ops over starts t walk f × NoDearer ops f e
    path_over other e p =
        let u : ℕ = p.start.vertex in
        let c : C = p.start.cost in
        let vc : ops.valid c = alone.paid p.start p.among in
        let goes : Chain (Paying ops K.Hop) u c p.middle p.last p.paid = Chain-map (StepBy ops whole) {T = Paying ops K.Hop} (λ u v c d k. (k.0, (is_whole u v k.0).0 k.1, k.2)) u p.last c p.paid p.middle p.goes in
        let all : Chain (Paying ops K.Hop) u c (p.middle ++ t ∷ []) t e = Chain-push (Paying ops K.Hop) u p.last t c p.paid e p.middle goes (p.joins.0, (is_whole p.last t p.joins.0).0 p.joins.1, p.joins.2) in
        let rest = Chain-from_zero laws cut.valid u t c e (p.middle ++ t ∷ []) vc all in
        let r = pass_to u t rest.0 p.middle (alone.start p.start p.among) (inl alone.ends) rest.1 in
        let vf : ops.valid r.2 = Chain-valid laws (over_valid laws K cut) u t ops.zero r.2 (r.0 ∷ r.1) laws.zero_valid r.3 in
        let vr : ops.valid rest.0 = Chain-valid laws cut.valid u t ops.zero rest.0 (p.middle ++ t ∷ []) laws.zero_valid rest.1 in
        let pass : Chain (Paying ops (OverHop K)) u c (r.0 ∷ r.1) t (ops.plus c r.2) = Chain-to_more laws (over_valid laws K cut) u t c r.2 (r.0 ∷ r.1) vc r.3 in
        let le : NoDearer ops (ops.plus c r.2) e = subst (λ x. NoDearer ops (ops.plus c r.2) x) (sym rest.2) (plus_le_left laws r.2 rest.0 c vf vr vc r.4) in
        elim (Chain-ends (Paying ops (OverHop K)) u t c (ops.plus c r.2) (r.0 ∷ r.1) pass) [
          | inl q ↦ absurd (cons_nil r.0 r.1 q.2)
          | inr q ↦ (
            u ∷ (q.0 ++ t ∷ []),
            ops.plus c r.2,
            record {
              start = p.start;
              among = p.among;
              may = (alone.may p.start p.among).1 p.may;
              middle = q.0;
              last = q.1;
              paid = q.2;
              goes = path_from_pass laws K cut over is_over u q.1 c q.2 q.0 q.3;
              joins = (q.4.0, (is_over q.1 t q.4.0).1 q.4.1, q.4.2);
              is_walk = refl;
            },
            le,
          )
        ]

    -- what no path over the parts costs less than none over the whole does
    pub IsBeyond-whole : (limit : C) → IsBeyond ops over starts t limit → IsBeyond ops whole starts t limit
    IsBeyond-whole limit beyond other e q = let o = path_over other e q in le_trans laws limit o.1 e (beyond o.0 o.1 o.2) o.3

module _ {C : Type 0} {ops : CostOps C} (laws : CostLaws ops) (g : Digraph) (w : Weighting C) (small : AreSmall ops g w) (starts : List (Start C)) (units : (s : Start C) → Contains starts s → ops.units s.cost 1) (t : Target C) (unit : ops.units t.cost 1) where
  move_valid : (u v : ℕ) (s : C) → IsMove ops g w u v s → ops.valid s
  move_valid u v s m = subst ops.valid (sym m.4) (laws.plus_valid m.0 m.1 (laws.units_valid m.0 1 (small.arc_unit m.2.0 m.0 m.2.2)) (laws.units_valid m.1 1 (small.vertex_unit v m.1 m.3)))

  -- Where each path to the target's vertex costs d and the vertex's cost or more, each walk to the target, which pays
  -- the target's cost in its place, costs d or more.
  pub none_below : (x d : C) → IsOpen w t.vertex x → ops.valid d → IsBeyond ops (arc_space ops g w) starts t.vertex (ops.plus d x) → (walk : List ℕ) (e : C) → IsBetween ops g w starts t walk e → NoDearer ops d e
  none_below x d o vd beyond walk e q =
      let vx : ops.valid x = laws.units_valid x 1 (small.vertex_unit t.vertex x o) in
      let va : ops.valid q.arc = laws.units_valid q.arc 1 (small.arc_unit q.joins.0 q.arc q.joins.2) in
      let vc : ops.valid q.start.cost = laws.units_valid q.start.cost 1 (units q.start q.among) in
      let vt : ops.valid t.cost = laws.units_valid t.cost 1 unit in
      let vp : ops.valid q.paid = Chain-valid laws move_valid q.start.vertex q.last q.start.cost q.paid q.middle vc q.goes in
      let all : C = ops.plus q.paid q.arc in
      let v_all : ops.valid all = laws.plus_valid q.paid q.arc vp va in
      let path : IsPathTo ops (arc_space ops g w) starts t.vertex walk (ops.plus q.paid (ops.plus q.arc x)) = record {
        start = q.start;
        among = q.among;
        may = q.start_open;
        middle = q.middle;
        last = q.last;
        paid = q.paid;
        goes = path_from_walk ops g w q.start.vertex q.last q.start.cost q.paid q.middle q.goes;
        joins = (ops.plus q.arc x, hop_from_move ops g w q.last t.vertex (ops.plus q.arc x) (q.arc, x, q.joins, o, refl), refl);
        is_walk = q.is_walk;
      } in
      let far : NoDearer ops (ops.plus d x) (ops.plus q.paid (ops.plus q.arc x)) = beyond walk (ops.plus q.paid (ops.plus q.arc x)) path in
      let with_x : NoDearer ops (ops.plus d x) (ops.plus all x) = subst (λ y. NoDearer ops (ops.plus d x) y) (sym (laws.assoc q.paid q.arc x vp va vx)) far in
      let before : NoDearer ops d all = plus_le_back laws d all x vd v_all vx with_x in
      subst (λ y. NoDearer ops d y) (sym q.is_cost) (le_trans laws d all (ops.plus all t.cost) before (plus_grows laws all t.cost v_all vt))
