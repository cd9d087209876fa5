-- What a target's cheapest walks cost, from what the cheapest paths to its vertex do.
use Rattle.std.proofs.Common.{◌≡◌, ℕ, ◌^◌, ◌≤◌, Option, Some, None, List, sym, ◌∙◌, arith}
use Rattle.std.specs.List.{slice_get}
use Rattle.std.proofs.lemmas.Option.{same_Some}
use Rattle.search_graph.specs.Costs.{CostOps, CostLaws}
use Rattle.search_graph.specs.declared.ends.Start.{Start}
use Rattle.search_graph.specs.declared.ends.Target.{Target}
use Rattle.search_graph.specs.Digraph.{Weighting, IsOpen}
use Rattle.search_graph.specs.Walks.{IsLeastWalk, NoneBetween}
use Rattle.search_graph.specs.Weighted.{IsWeighting}
use Rattle.search_graph.specs.WeightLaws.{small_is_weighting}
use Rattle.step_search.specs.Paths.{IsLeastPath, IsLeastPathCost, NoPathTo}
use Rattle.step_search.specs.ArcSpace.{arc_space}
use Rattle.step_search.specs.ArcLaws.{move_from_hop}
use Rattle.step_search.specs.TargetLaws.{NoneBetween-from_path, path_parts, rest_units, IsLeastWalk-from_path}
use Rattle.cut_walks.specs.Cut.{AreAlone}
use Rattle.cut_walks.specs.Answering.{IsLeastPath-whole, NoPathTo-whole}
use Rattle.cell_frame.specs.Borders.{Framed}
use Rattle.cell_frame.specs.Cliqued.{CliqueLists}
use Rattle.cell_frame.specs.Free.{free_level}
use Rattle.cell_frame.specs.Parts.{ShareCell}
use Rattle.column_query.specs.Rows.{IsReady, row_space}
use Rattle.column_query.proofs.Ways.{row_cut, AreStarts-arcs, valid_start, whole, start_alone, may_begin}

module _ {C : Type 0} {ops : CostOps C} (laws : CostLaws ops) (f : Framed) (w : Weighting C) (cliques : CliqueLists C) (vertices : List ℕ) (starts : List (Start C)) (ready : IsReady ops f w cliques vertices starts) where
  module _ (t : ℕ) (alone : free_level f.cells vertices t ≡ 0) where
    are_alone : AreAlone ops (row_cut laws f w cliques vertices starts ready) (row_space ops f w vertices) (arc_space ops f.graph w) starts t
    are_alone = record {
      paid = valid_start laws f w cliques vertices starts ready;
      start = start_alone laws f w cliques vertices starts ready;
      may = λ s h. (λ m. m.2, λ m. may_begin laws f w cliques vertices starts ready s h m);
      ends = λ (j : ShareCell f.cells (free_level f.cells vertices) t t). let some : 1 ≤ free_level f.cells vertices t = j.0 in omega (arith, alone);
    }

    -- to a vertex that is alone a cheapest path over the parts costs what a cheapest one over the graph does
    pub IsLeastPathCost-alone : (cost : Option C) → IsLeastPathCost ops (row_space ops f w vertices) starts t cost → IsLeastPathCost ops (arc_space ops f.graph w) starts t cost
    IsLeastPathCost-alone None h = NoPathTo-whole laws (row_cut laws f w cliques vertices starts ready) ready.lawful.cut (row_space ops f w vertices) ready.lawful.over (arc_space ops f.graph w) (whole laws f w cliques vertices starts ready) starts t are_alone h
    IsLeastPathCost-alone (Some r) h = IsLeastPath-whole laws (row_cut laws f w cliques vertices starts ready) ready.lawful.cut (row_space ops f w vertices) ready.lawful.over (arc_space ops f.graph w) (whole laws f w cliques vertices starts ready) starts t are_alone h.0 r h.1

  module _ (t : Target C) (unit : ops.units t.cost 1) where
    -- where no path leads to its vertex, no walk leads to the target
    pub none_between : NoPathTo ops (arc_space ops f.graph w) starts t.vertex → NoneBetween ops f.graph w starts t
    none_between none = NoneBetween-from_path laws f.graph w starts t none

    module _ (walk : List ℕ) (r : C) (path : IsLeastPath ops (arc_space ops f.graph w) starts t.vertex walk r) where
      -- where one leads there, the vertex is open
      pub never_closed : slice_get w.vertex t.vertex ≡ Some None → ⊥
      never_closed none =
          let m = move_from_hop ops f.graph w path.leads.last t.vertex path.leads.joins.0 path.leads.joins.1 in
          let e : ◌≡◌ {A = Option C} None (Some m.1) = same_Some None (Some m.1) (sym none ∙ m.3) in
          cc

      weighting : IsWeighting ops f.graph w
      weighting = small_is_weighting laws f.graph w ready.small

      module _ (x : C) (o : IsOpen w t.vertex x) where
        -- the vertex's cost is a part of the path's
        pub vertex_paid : (rest : C) × ops.valid rest × (r ≡ ops.plus x rest)
        vertex_paid = path_parts laws f.graph w starts t weighting (AreStarts-arcs laws f w cliques vertices starts ready) unit walk r path x o

        pub target_units : (rest : C) → ops.valid rest → r ≡ ops.plus x rest → ops.units (ops.plus rest t.cost) (2 ^ 31)
        target_units rest v e = rest_units laws f.graph w starts t weighting (AreStarts-arcs laws f w cliques vertices starts ready) unit walk r path x o rest v e

        -- and with the target's cost in its place it is what a cheapest walk costs
        pub least_walk : (rest : C) → ops.valid rest → r ≡ ops.plus x rest → IsLeastWalk ops f.graph w starts t walk (ops.plus rest t.cost)
        least_walk rest v e = IsLeastWalk-from_path laws f.graph w starts t weighting (AreStarts-arcs laws f w cliques vertices starts ready) unit walk r path x o rest v e
