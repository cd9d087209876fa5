-- A cheapest path over the parts, packed, is the answer to its target.
use Rattle.std.proofs.Common.{◌≡◌, ℕ, inl, inr, Option, Some, None, List, [], ◌∷◌, ◌++◌, refl, sym, ◌∙◌, ap, subst}
use Rattle.std.specs.List.{slice_get}
use Rattle.std.proofs.lemmas.Option.{same_Some}
use Rattle.search_graph.specs.Costs.{CostOps, CostLaws}
use Rattle.search_graph.specs.declared.ends.Start.{Start}
use Rattle.search_graph.specs.declared.ends.Target.{Target}
use Rattle.search_graph.specs.Digraph.{Weighting}
use Rattle.search_graph.specs.Walks.{IsMove}
use Rattle.search_graph.specs.ChainLaws.{Chain-valid}
use Rattle.step_search.specs.Spaces.{HasHop}
use Rattle.step_search.specs.Paths.{IsLeastPath}
use Rattle.step_search.specs.ArcLaws.{open_cost}
use Rattle.cut_walks.specs.Cutting.{over_valid}
use Rattle.cell_partition.specs.Partition.{Partition}
use Rattle.cell_frame.specs.declared.cells.Cell.{Cell}
use Rattle.cell_frame.specs.Borders.{Framed}
use Rattle.cell_frame.specs.Cliqued.{CliqueLists}
use Rattle.cell_frame.specs.Free.{free_level}
use Rattle.cell_frame.specs.Parts.{ShareCell, part_cut}
use Rattle.overlay_query.specs.declared.packed.Hop.{Hop}
use Rattle.overlay_query.specs.Packed.{AreBetweenParts, IsByPart, ArePacked}
use Rattle.overlay_query.specs.PackLaws.{packed_between, packed_last, packed_chain}
use Rattle.overlay_query.specs.Answers.{IsPackedLeast}
use Rattle.overlay_query.specs.Query.{IsQuery, IsAsked, IsCostWith, query_space}
use Rattle.overlay_query.proofs.Finding.{apart, valid_start}

same_hop : {a b : ℕ} {o x : Option Cell} → a ≡ b → o ≡ x → ◌≡◌ {A = Hop} (record { to = a; by = o }) (record { to = b; by = x })
same_hop e h = cc

by_none : (p : Partition) (level : ℕ → ℕ) (u v : ℕ) (o : Option Cell) → IsByPart p level u v o → (¬ ShareCell p level u v) → o ≡ None
by_none p level u v None h n = refl
by_none p level u v (Some k) h n = absurd (n h.0)

module _ {C : Type 0} {ops : CostOps C} (laws : CostLaws ops) (f : Framed) (w : Weighting C) (cliques : CliqueLists C) (terminals : List ℕ) (starts : List (Start C)) (query : IsQuery ops f w cliques terminals starts)
    (t : Target C) (asked : IsAsked ops f terminals t) where
  pub IsPackedLeast-from : (walk : List ℕ) (r d : C) → IsLeastPath ops (query_space ops f w terminals) starts t.vertex walk r → IsCostWith ops f.graph w starts t r d →
      (hops : List Hop) → ArePacked f.cells (free_level f.cells terminals) walk hops → (first : ℕ) → slice_get walk 0 ≡ Some first →
      IsPackedLeast ops f w terminals starts t (record { cost = d; packed = record { first = first; hops = hops } })
  IsPackedLeast-from walk r d path cost hops packed first at =
      let p = path.leads in
      let s : C = p.joins.0 in
      let move : IsMove ops f.graph w p.last t.vertex s = elim ((query.lawful.over p.last t.vertex s).0 p.joins.1) [ inl q ↦ q.1.1 | inr q ↦ absurd (apart laws f w cliques terminals starts query t.vertex asked.among p.last q.1) ] in
      let a : C = move.0 in
      let x : C = move.1 in
      let va : ops.valid a = laws.units_valid a 1 (query.small.arc_unit move.2.0 a move.2.2) in
      let vx : ops.valid x = laws.units_valid x 1 (query.small.vertex_unit t.vertex x move.3) in
      let v_paid : ops.valid p.paid = Chain-valid laws {Hop = HasHop (query_space ops f w terminals)} (λ u v c h. over_valid laws (part_cut ops f.graph f.cells w (λ y. Unit {0}) (free_level f.cells terminals)) query.lawful.cut u v c ((query.lawful.over u v c).0 h))
      p.start.vertex p.last p.start.cost p.paid p.middle (valid_start laws f w cliques terminals starts query p.start p.among) p.goes in
      let same_x : cost.vertex ≡ x = open_cost ops f.graph w t.vertex cost.vertex x cost.opens move.3 in
      let left : r ≡ ops.plus cost.rest x = cost.before ∙ ap (λ (y : C). ops.plus y cost.rest) same_x ∙ laws.comm x cost.rest vx cost.valid in
      let right : r ≡ ops.plus (ops.plus p.paid a) x = p.joins.2 ∙ ap (ops.plus p.paid) move.4 ∙ sym (laws.assoc p.paid a x v_paid va vx) in
      let rest : cost.rest ≡ ops.plus p.paid a = laws.cancels cost.rest (ops.plus p.paid a) x cost.valid (laws.plus_valid p.paid a v_paid va) vx (sym left ∙ right) in
      let whole : ArePacked f.cells (free_level f.cells terminals) (p.start.vertex ∷ (p.middle ++ t.vertex ∷ [])) hops = subst (λ (xs : List ℕ). ArePacked f.cells (free_level f.cells terminals) xs hops) p.is_walk packed in
      let parted = packed_last f.cells (free_level f.cells terminals) p.middle p.start.vertex t.vertex hops whole in
      let none : parted.1.by ≡ None = by_none f.cells (free_level f.cells terminals) parted.5 t.vertex parted.1.by parted.6 (apart laws f w cliques terminals starts query t.vertex asked.among parted.5) in
      let last : parted.1 ≡ record { to = t.vertex; by = None } = same_hop parted.4 none in
      let is_first : first ≡ p.start.vertex = same_Some first p.start.vertex (sym at ∙ ap (λ (xs : List ℕ). slice_get xs 0) p.is_walk) in
      record {
        leads = record {
          start = p.start;
          among = p.among;
          start_open = p.may.2;
          middle = parted.0;
          last = p.last;
          paid = p.paid;
          goes = packed_chain ops f query.framed w (λ v. Unit {0}) (free_level f.cells terminals) query.lawful query.high p.middle p.start.vertex p.last p.start.cost p.paid parted.0 p.goes parted.3;
          arc = a;
          joins = move.2;
          target_open = (x, move.3);
          is_first = is_first;
          is_hops = parted.2 ∙ ap (λ (h : Hop). parted.0 ++ h ∷ []) last;
          is_cost = cost.cost ∙ ap (λ (y : C). ops.plus y t.cost) rest;
        };
        walk = (cost.walk, cost.least.leads);
        least = cost.least.least;
        between = subst (λ (y : ℕ). AreBetweenParts f.cells (free_level f.cells terminals) y hops) (sym is_first) (packed_between f.cells (free_level f.cells terminals) (p.middle ++ t.vertex ∷ []) p.start.vertex hops whole);
      }
