-- What walks from the starts to a target cost, by the entries of its part: a path over the parts to an entry and a walk on
-- inside the part make a walk, and each walk is matched by such a pair that is no dearer.
use Rattle.std.proofs.Common.{ℕ, ◌<◌, ◌≤◌, inl, inr, List, [], ◌∷◌, ◌++◌, refl, sym, ◌∙◌, subst}
use Rattle.std.specs.List.{Contains}
use Rattle.search_graph.specs.Costs.{CostOps, CostLaws, NoDearer}
use Rattle.search_graph.specs.declared.ends.Start.{Start}
use Rattle.search_graph.specs.Digraph.{Weighting}
use Rattle.search_graph.specs.Walks.{Chain, Paying, Walk, IsMove}
use Rattle.search_graph.specs.OrderLaws.{plus_le, plus_le_left}
use Rattle.search_graph.specs.ChainLaws.{Chain-append, Chain-push, Chain-map, Chain-valid, Chain-from_zero, Chain-to_more}
use Rattle.search_graph.specs.WeightLaws.{move_valid}
use Rattle.step_search.specs.Spaces.{StepBy, Path}
use Rattle.step_search.specs.Paths.{IsPathTo}
use Rattle.step_search.specs.ArcSpace.{arc_space}
use Rattle.step_search.specs.ArcLaws.{move_from_hop, hop_from_move, walk_from_path, path_from_walk}
use Rattle.cut_walks.specs.Cut.{OverHop, MayBegin, MayEnd}
use Rattle.cut_walks.specs.Cutting.{over_valid, goes_from_pass, pass_from_goes}
use Rattle.cut_walks.specs.Bounds.{Chain-ends, pass_from_path, path_from_pass}
use Rattle.cell_frame.specs.Borders.{Framed, Holds, IsEntry, at_cell}
use Rattle.cell_frame.specs.Cliqued.{CliqueLists}
use Rattle.cell_frame.specs.Free.{free_level}
use Rattle.cell_frame.specs.Inside.{IsMoveIn}
use Rattle.column_query.specs.Rows.{IsReady, row_space}
use Rattle.column_query.proofs.Entering.{entered}
use Rattle.column_query.proofs.Ways.{GoesBy, row_cut, valid_start, may_begin, start_alone, part, held, part_is_cell, held_or_not, start_outside, apart}

module _ {C : Type 0} {ops : CostOps C} (laws : CostLaws ops) (f : Framed) (w : Weighting C) (cliques : CliqueLists C) (vertices : List ℕ) (starts : List (Start C)) (ready : IsReady ops f w cliques vertices starts)
    (t : ℕ) (below : t < f.graph.vertices) (some : 1 ≤ free_level f.cells vertices t) where
  -- a path to an entry and a walk on are a walk to t
  pub path_from_way : (e : ℕ) (d : C) → GoesBy ops f w vertices starts t e d → (walk : List ℕ) × IsPathTo ops (arc_space ops f.graph w) starts t walk d
  path_from_way e d by =
      let K = row_cut laws f w cliques vertices starts ready in
      let cut = ready.lawful.cut in
      let S = row_space ops f w vertices in
      let p = by.path in
      let u : ℕ = p.start.vertex in
      let a : C = p.start.cost in
      let va : ops.valid a = valid_start laws f w cliques vertices starts ready p.start p.among in
      let over : Path ops S u a (p.middle ++ e ∷ []) e by.paid = Chain-push (StepBy ops S) u p.last e a p.paid by.paid p.middle p.goes p.joins in
      let g = goes_from_pass laws K cut u e a by.paid (p.middle ++ e ∷ []) va (pass_from_path laws K cut S ready.lawful.over u e a by.paid (p.middle ++ e ∷ []) over) in
      let vr : ops.valid by.paid = Chain-valid laws cut.valid u e a by.paid g.0 va g.1 in
      let inner : Chain (Paying ops K.Hop) e ops.zero by.rest t by.more = Chain-map (Paying ops (IsMoveIn ops f.graph w (Holds f.cells (part laws f w cliques vertices starts ready t below some)))) {T = Paying ops K.Hop} (λ x y c d h. (h.0, (tt, h.1.1), h.2)) e t ops.zero by.more by.rest by.inside.goes in
      let on : Chain (Paying ops K.Hop) e by.paid by.rest t (ops.plus by.paid by.more) = Chain-to_more laws cut.valid e t by.paid by.more by.rest vr inner in
      let all : Chain (Paying ops K.Hop) u a (g.0 ++ by.rest) t (ops.plus by.paid by.more) = Chain-append (Paying ops K.Hop) u e t a by.paid (ops.plus by.paid by.more) g.0 by.rest g.1 on in
      elim (Chain-ends (Paying ops K.Hop) u t a (ops.plus by.paid by.more) (g.0 ++ by.rest) all) [
        | inl z ↦
            let at : Holds f.cells (part laws f w cliques vertices starts ready t below some) u = subst (λ (x : ℕ). Holds f.cells (part laws f w cliques vertices starts ready t below some) x) z.0 (held laws f w cliques vertices starts ready t below some) in
            absurd (start_outside laws f w cliques vertices starts ready t below some p.start p.among at)
        | inr y ↦ (
          u ∷ (y.0 ++ t ∷ []),
          record {
            start = p.start;
            among = p.among;
            may = p.may.2;
            middle = y.0;
            last = y.1;
            paid = y.2;
            goes = path_from_walk ops f.graph w u y.1 a y.2 y.0 (Chain-map (Paying ops K.Hop) {T = Paying ops (IsMove ops f.graph w)} (λ x y c d h. (h.0, h.1.1, h.2)) u y.1 a y.2 y.0 y.3);
            joins = (y.4.0, hop_from_move ops f.graph w y.1 t y.4.0 y.4.1.1, by.sum ∙ y.4.2);
            is_walk = refl;
          },
        )
      ]

  -- each walk to t comes by an entry of its part
  pub way_from_path : (walk : List ℕ) (d : C) → IsPathTo ops (arc_space ops f.graph w) starts t walk d →
      (e : ℕ) × (q : C) × Contains (at_cell f.entries (part laws f w cliques vertices starts ready t below some)) e × GoesBy ops f w vertices starts t e q × NoDearer ops q d
  way_from_path walk d p =
      let K = row_cut laws f w cliques vertices starts ready in
      let cut = ready.lawful.cut in
      let S = row_space ops f w vertices in
      let k = part laws f w cliques vertices starts ready t below some in
      let moves = move_valid laws f.graph w ready.small in
      let u : ℕ = p.start.vertex in
      let a : C = p.start.cost in
      let va : ops.valid a = valid_start laws f w cliques vertices starts ready p.start p.among in
      let all : Walk ops f.graph w u a (p.middle ++ t ∷ []) t d = Chain-push (Paying ops (IsMove ops f.graph w)) u p.last t a p.paid d p.middle (walk_from_path ops f.graph w u p.last a p.paid p.middle p.goes) (p.joins.0, move_from_hop ops f.graph w p.last t p.joins.0 p.joins.1, p.joins.2) in
      elim (entered laws moves (Holds f.cells k) (held_or_not laws f w cliques vertices starts ready t below some) u t a d (p.middle ++ t ∷ []) va (held laws f w cliques vertices starts ready t below some) all) [
        | inl q ↦ absurd (start_outside laws f w cliques vertices starts ready t below some p.start p.among q.inside)
        | inr q ↦
            let hop : K.Hop q.tail q.head q.by = (tt, q.hop) in
            let between : ¬ K.Joined q.tail q.head = apart laws f w cliques vertices starts ready t below some q.tail q.head q.outside q.inside in
            let begins : MayBegin K u = ((tt, p.may.0, p.may.1), inl (start_alone laws f w cliques vertices starts ready p.start p.among)) in
            let ends : MayEnd K q.tail = elim (cut.joined_or_not q.tail q.tail) [ inl j ↦ inr (cut.leaves q.tail q.head q.by hop between j) | inr n ↦ inl n ] in
            let comes : Chain (Paying ops K.Hop) u a q.before q.tail q.paid = Chain-map (Paying ops (IsMove ops f.graph w)) {T = Paying ops K.Hop} (λ x y c d h. (h.0, (tt, h.1), h.2)) u q.tail a q.paid q.before q.comes in
            let less = Chain-from_zero laws cut.valid u q.tail a q.paid q.before va comes in
            let pass = pass_from_goes laws K cut u q.tail less.0 q.before begins ends less.1 in
            let v_less : ops.valid less.0 = Chain-valid laws cut.valid u q.tail ops.zero less.0 q.before laws.zero_valid less.1 in
            let v_pass : ops.valid pass.1 = Chain-valid laws (over_valid laws K cut) u q.tail ops.zero pass.1 pass.0 laws.zero_valid pass.2 in
            let v_by : ops.valid q.by = cut.valid q.tail q.head q.by hop in
            let v_more : ops.valid q.more = Chain-valid laws {Hop = IsMoveIn ops f.graph w (Holds f.cells k)} (λ x y s m. moves x y s m.1) q.head t ops.zero q.more q.rest laws.zero_valid q.stays in
            let v_paid : ops.valid q.paid = Chain-valid laws moves u q.tail a q.paid q.before va q.comes in
            let r : C = ops.plus a pass.1 in
            let vr : ops.valid r = laws.plus_valid a pass.1 va v_pass in
            let over : Chain (Paying ops (OverHop K)) u a pass.0 q.tail r = Chain-to_more laws (over_valid laws K cut) u q.tail a pass.1 pass.0 va pass.2 in
            let path : IsPathTo ops S starts q.head (u ∷ (pass.0 ++ q.head ∷ [])) (ops.plus r q.by) = record {
              start = p.start;
              among = p.among;
              may = may_begin laws f w cliques vertices starts ready p.start p.among p.may;
              middle = pass.0;
              last = q.tail;
              paid = r;
              goes = path_from_pass laws K cut S ready.lawful.over u q.tail a r pass.0 over;
              joins = (q.by, (ready.lawful.over q.tail q.head q.by).1 (inl (between, hop)), refl);
              is_walk = refl;
            } in
            let enters : IsEntry f.graph f.cells k q.head = (q.inside, q.hop.2.0, q.tail, q.hop.2.1, q.outside) in
            let le_tail : NoDearer ops r q.paid = subst (λ x. NoDearer ops r x) (sym less.2) (plus_le_left laws pass.1 less.0 a v_pass v_less va pass.3) in
            let le_head : NoDearer ops (ops.plus r q.by) (ops.plus q.paid q.by) = plus_le laws r q.paid q.by vr v_paid v_by le_tail in
            let le_all : NoDearer ops (ops.plus (ops.plus r q.by) q.more) (ops.plus (ops.plus q.paid q.by) q.more) = plus_le laws (ops.plus r q.by) (ops.plus q.paid q.by) q.more (laws.plus_valid r q.by vr v_by) (laws.plus_valid q.paid q.by v_paid v_by) v_more le_head in (
              q.head,
              ops.plus (ops.plus r q.by) q.more,
              (ready.framed.entries k q.head (part_is_cell laws f w cliques vertices starts ready t below some)).1 enters,
              record { walk = u ∷ (pass.0 ++ q.head ∷ []); paid = ops.plus r q.by; path = path; rest = q.rest; more = q.more; inside = record { begins = q.inside; opens = (q.hop.1, q.hop.3); goes = q.stays }; sum = refl },
              subst (λ x. NoDearer ops (ops.plus (ops.plus r q.by) q.more) x) (sym q.sum) le_all,
            )
      ]
