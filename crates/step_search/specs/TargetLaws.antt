-- Laws of a target's cost: a cheapest path to its vertex is a cheapest walk to it, with its cost in place of the vertex's.
use Rattle.std.proofs.Common.{◌≡◌, ℕ, ◌+◌, ◌^◌, List, [], ◌∷◌, ◌++◌, refl, sym, ◌∙◌, ap, subst}
use Rattle.std.specs.List.{Contains}
use Rattle.list_lemmas.proofs.Sums.{three_within}
use Rattle.search_graph.specs.declared.ends.Start.{Start}
use Rattle.search_graph.specs.declared.ends.Target.{Target}
use Rattle.search_graph.specs.Costs.{CostOps, CostLaws, NoDearer}
use Rattle.search_graph.specs.Digraph.{Digraph, Weighting, IsOpen}
use Rattle.search_graph.specs.Walks.{IsBetween, IsLeastWalk, NoneBetween, IsMove}
use Rattle.search_graph.specs.Weighted.{IsWeighting}
use Rattle.search_graph.specs.OrderLaws.{plus_le, plus_le_back}
use Rattle.search_graph.specs.ChainLaws.{Chain-valid, Chain-from_zero, Chain-to_more}
use Rattle.step_search.specs.Spaces.{HasHop, IsLeastCost}
use Rattle.step_search.specs.Paths.{AreStarts, IsPathTo, IsLeastPath, NoPathTo}
use Rattle.step_search.specs.ArcSpace.{arc_space}
use Rattle.step_search.specs.ArcLaws.{IsSpace-arcs, open_cost, move_from_hop, hop_from_move, walk_from_path, path_from_walk}

module _ {C : Type 0} {ops : CostOps C} (laws : CostLaws ops) (g : Digraph) (w : Weighting C) (starts : List (Start C)) (t : Target C) where
  -- a walk to the target is a path to its vertex
  path_from_between : (walk : List ℕ) (e x : C) (q : IsBetween ops g w starts t walk e) → IsOpen w t.vertex x → IsPathTo ops (arc_space ops g w) starts t.vertex walk (ops.plus q.paid (ops.plus q.arc x))
  path_from_between walk e x q o = record {
    start = q.start;
    among = q.among;
    may = q.start_open;
    middle = q.middle;
    last = q.last;
    paid = q.paid;
    goes = path_from_walk ops g w q.start.vertex q.last q.start.cost q.paid q.middle q.goes;
    joins = (ops.plus q.arc x, hop_from_move ops g w q.last t.vertex (ops.plus q.arc x) (q.arc, x, q.joins, o, refl), refl);
    is_walk = q.is_walk;
  }

  -- where no path leads to the target's vertex, no walk leads to the target
  pub NoneBetween-from_path : NoPathTo ops (arc_space ops g w) starts t.vertex → NoneBetween ops g w starts t
  NoneBetween-from_path none walk d q = let o = q.target_open in none walk (ops.plus q.paid (ops.plus q.arc o.0)) (path_from_between walk d o.0 q o.1)

  module _ (weighting : IsWeighting ops g w) (fit : AreStarts ops (arc_space ops g w) starts) (unit : ops.units t.cost 1) where
    valid_hop : (u v : ℕ) (s : C) → HasHop (arc_space ops g w) u v s → ops.valid s
    valid_hop u v s h = laws.units_valid s (2 ^ 29) ((IsSpace-arcs ops g w laws weighting).hop_units u v s h)

    valid_start : (s : Start C) → Contains starts s → ops.valid s.cost
    valid_start s h = laws.units_valid s.cost 1 (fit s h).1

    valid_paid : (walk : List ℕ) (d : C) (p : IsPathTo ops (arc_space ops g w) starts t.vertex walk d) → ops.valid p.paid
    valid_paid walk d p = Chain-valid laws valid_hop p.start.vertex p.last p.start.cost p.paid p.middle (valid_start p.start p.among) p.goes

    module _ (walk : List ℕ) (r : C) (path : IsLeastPath ops (arc_space ops g w) starts t.vertex walk r) where
      -- what a cheapest path pays before its last hop is what a small one pays
      paid_units : ops.units path.leads.paid (1 + 2 ^ 28)
      paid_units =
          let p = path.leads in
          let s : C = p.joins.0 in
          let vs : ops.valid s = valid_hop p.last t.vertex s p.joins.1 in
          let c : C = p.start.cost in
          let vc : ops.valid c = valid_start p.start p.among in
          let rest = Chain-from_zero laws valid_hop p.start.vertex p.last c p.paid p.middle vc p.goes in
          let v_rest : ops.valid rest.0 = Chain-valid laws valid_hop p.start.vertex p.last ops.zero rest.0 p.middle laws.zero_valid rest.1 in
          let v_paid : ops.valid p.paid = valid_paid walk r p in
          let least : IsLeastCost ops (arc_space ops g w) p.start.vertex p.last rest.0 = λ ws e q.
          let v_e : ops.valid e = Chain-valid laws valid_hop p.start.vertex p.last ops.zero e ws laws.zero_valid q in
          let v_less : ops.valid (ops.plus c e) = laws.plus_valid c e vc v_e in
          let other : IsPathTo ops (arc_space ops g w) starts t.vertex (p.start.vertex ∷ (ws ++ t.vertex ∷ [])) (ops.plus (ops.plus c e) s) = record {
            start = p.start;
            among = p.among;
            may = p.may;
            middle = ws;
            last = p.last;
            paid = ops.plus c e;
            goes = Chain-to_more laws valid_hop p.start.vertex p.last c e ws vc q;
            joins = (s, p.joins.1, refl);
            is_walk = refl;
          } in
          let le : NoDearer ops (ops.plus p.paid s) (ops.plus (ops.plus c e) s) = subst (λ x. NoDearer ops x (ops.plus (ops.plus c e) s)) p.joins.2 (path.least _ (ops.plus (ops.plus c e) s) other) in
          let before : NoDearer ops (ops.plus c rest.0) (ops.plus c e) = subst (λ x. NoDearer ops x (ops.plus c e)) rest.2 (plus_le_back laws p.paid (ops.plus c e) s v_paid v_less vs le) in
          plus_le_back laws rest.0 e c v_rest v_e vc (subst (λ x. NoDearer ops x (ops.plus e c)) (laws.comm c rest.0 vc v_rest) (subst (λ x. NoDearer ops (ops.plus c rest.0) x) (laws.comm c e vc v_e) before)) in
          let small : ops.units rest.0 (2 ^ 28) = (IsSpace-arcs ops g w laws weighting).least_units p.start.vertex p.last rest.0 p.middle p.may rest.1 least in
          subst (λ x. ops.units x (1 + 2 ^ 28)) (sym rest.2) (laws.plus_units c rest.0 1 (2 ^ 28) (fit p.start p.among).1 small)

      -- what a cheapest path pays before its last vertex, which costs x: with the target's cost it is what a walk costs
      before : (x : C) → IsOpen w t.vertex x →
          (b : C) × ops.valid b × (r ≡ ops.plus b x) × ops.units b (1 + 2 ^ 28 + 2 ^ 28) × IsBetween ops g w starts t walk (ops.plus b t.cost)
      before x o =
          let p = path.leads in
          let m : IsMove ops g w p.last t.vertex p.joins.0 = move_from_hop ops g w p.last t.vertex p.joins.0 p.joins.1 in
          let a : C = m.0 in
          let a_units : ops.units a (2 ^ 28) = weighting.arc_units m.2.0 a m.2.2 in
          let va : ops.valid a = laws.units_valid a (2 ^ 28) a_units in
          let vx : ops.valid x = laws.units_valid x (2 ^ 28) (weighting.vertex_units t.vertex x o) in
          let v_paid : ops.valid p.paid = valid_paid walk r p in
          let head : m.1 ≡ x = open_cost ops g w t.vertex m.1 x m.3 o in
          let hop : p.joins.0 ≡ ops.plus a x = m.4 ∙ ap (ops.plus a) head in
          let sum : r ≡ ops.plus (ops.plus p.paid a) x = p.joins.2 ∙ ap (ops.plus p.paid) hop ∙ sym (laws.assoc p.paid a x v_paid va vx) in (
            ops.plus p.paid a,
            laws.plus_valid p.paid a v_paid va,
            sum,
            laws.plus_units p.paid a (1 + 2 ^ 28) (2 ^ 28) paid_units a_units,
            record {
              start = p.start;
              among = p.among;
              start_open = p.may;
              middle = p.middle;
              last = p.last;
              paid = p.paid;
              goes = walk_from_path ops g w p.start.vertex p.last p.start.cost p.paid p.middle p.goes;
              arc = a;
              joins = m.2;
              target_open = (x, o);
              is_walk = p.is_walk;
              is_cost = refl;
            },
          )

      valid_open : (x : C) → IsOpen w t.vertex x → ops.valid x
      valid_open x o = laws.units_valid x (2 ^ 28) (weighting.vertex_units t.vertex x o)

      -- the vertex's cost is a part of the path's
      pub path_parts : (x : C) → IsOpen w t.vertex x → (rest : C) × ops.valid rest × (r ≡ ops.plus x rest)
      path_parts x o = let b = before x o in (b.0, b.1, b.2 ∙ laws.comm b.0 x b.1 (valid_open x o))

      -- and what is left is what was paid before it
      rest_is : (x : C) (o : IsOpen w t.vertex x) (rest : C) → ops.valid rest → r ≡ ops.plus x rest → (before x o).0 ≡ rest
      rest_is x o rest v e =
          let b = before x o in
          laws.cancels b.0 rest x b.1 v (valid_open x o) (sym b.2 ∙ e ∙ laws.comm x rest (valid_open x o) v)

      pub rest_units : (x : C) → IsOpen w t.vertex x → (rest : C) → ops.valid rest → r ≡ ops.plus x rest → ops.units (ops.plus rest t.cost) (2 ^ 31)
      rest_units x o rest v e =
          let b = before x o in
          let u : ops.units rest (1 + 2 ^ 28 + 2 ^ 28) = subst (λ y. ops.units y (1 + 2 ^ 28 + 2 ^ 28)) (rest_is x o rest v e) b.3 in
          laws.units_more (ops.plus rest t.cost) (1 + 2 ^ 28 + 2 ^ 28 + 1) (2 ^ 31) (laws.plus_units rest t.cost (1 + 2 ^ 28 + 2 ^ 28) 1 u unit) three_within

      -- with the target's cost in place of the vertex's, the walk is a cheapest one
      pub IsLeastWalk-from_path : (x : C) → IsOpen w t.vertex x → (rest : C) → ops.valid rest → r ≡ ops.plus x rest → IsLeastWalk ops g w starts t walk (ops.plus rest t.cost)
      unfolding path_from_between
      IsLeastWalk-from_path x o rest v e =
          let b = before x o in
          let vt : ops.valid t.cost = laws.units_valid t.cost 1 unit in
          let vx : ops.valid x = valid_open x o in
          subst (λ y. IsLeastWalk ops g w starts t walk (ops.plus y t.cost)) (rest_is x o rest v e) (record {
            leads = b.4;
            least = λ other d q.
                let p = path_from_between other d x q o in
                let va : ops.valid q.arc = laws.units_valid q.arc (2 ^ 28) (weighting.arc_units q.joins.0 q.arc q.joins.2) in
                let v_paid : ops.valid q.paid = valid_paid other (ops.plus q.paid (ops.plus q.arc x)) p in
                let all : C = ops.plus q.paid q.arc in
                let v_all : ops.valid all = laws.plus_valid q.paid q.arc v_paid va in
                let le : NoDearer ops r (ops.plus q.paid (ops.plus q.arc x)) = path.least other (ops.plus q.paid (ops.plus q.arc x)) p in
                let with_x : NoDearer ops (ops.plus b.0 x) (ops.plus all x) = subst (λ y. NoDearer ops y (ops.plus all x)) b.2 (subst (λ y. NoDearer ops r y) (sym (laws.assoc q.paid q.arc x v_paid va vx)) le) in
                subst (λ y. NoDearer ops (ops.plus b.0 t.cost) y) (sym q.is_cost) (plus_le laws b.0 all t.cost b.1 v_all vt (plus_le_back laws b.0 all x b.1 v_all vx with_x));
          })
