-- What a query over the parts finds is what one over the plain graph would.
use Rattle.std.proofs.Common.{◌≡◌, ℕ, ◌<◌, ◌≤◌, ◌^◌, inl, inr, Option, Some, None, All, List, refl, sym, ◌∙◌, arith}
use Rattle.std.specs.List.{Contains, slice_get}
use Rattle.std.proofs.lemmas.Option.{same_Some}
use Rattle.list_lemmas.proofs.Gets.{get_Contains, All_get}
use Rattle.search_graph.specs.Costs.{CostOps, CostLaws}
use Rattle.search_graph.specs.declared.ends.Start.{Start}
use Rattle.search_graph.specs.declared.ends.Target.{Target}
use Rattle.search_graph.specs.Digraph.{Weighting, IsOpen}
use Rattle.search_graph.specs.Walks.{NoneBetween}
use Rattle.search_graph.specs.Weighted.{IsWeighting}
use Rattle.search_graph.specs.WeightLaws.{small_is_weighting}
use Rattle.step_search.specs.Paths.{AreStarts, IsPathTo, IsLeastPath, NoPathTo, IsBeyond}
use Rattle.step_search.specs.ArcSpace.{arc_space}
use Rattle.step_search.specs.ArcLaws.{move_from_hop, hop_from_move}
use Rattle.step_search.specs.TargetLaws.{NoneBetween-from_path, path_parts, rest_units, IsLeastWalk-from_path}
use Rattle.cut_walks.specs.Cut.{Cut, IsWhole, AreAlone}
use Rattle.cut_walks.specs.Answering.{IsLeastPath-whole, NoPathTo-whole}
use Rattle.cell_frame.specs.Borders.{Framed}
use Rattle.cell_frame.specs.Cliqued.{CliqueLists}
use Rattle.cell_frame.specs.Free.{free_level}
use Rattle.cell_frame.specs.Parts.{ShareCell, part_cut}
use Rattle.overlay_query.proofs.Beyond.{IsBeyond-whole}
use Rattle.overlay_query.specs.Query.{IsQuery, IsAsked, IsCostWith, query_space}

all_contains : (P : ℕ → Type 0) (xs : List ℕ) (x : ℕ) → All P xs → Contains xs x → P x
all_contains P xs x all h = let g = get_Contains xs x h in All_get P xs g.0 x all g.1

module _ {C : Type 0} {ops : CostOps C} (laws : CostLaws ops) (f : Framed) (w : Weighting C) (cliques : CliqueLists C) (terminals : List ℕ) (starts : List (Start C)) (query : IsQuery ops f w cliques terminals starts) where
  abbrev K : Cut C
  K = part_cut ops f.graph f.cells w (λ v. Unit {0}) (free_level f.cells terminals)

  -- a terminal is alone
  alone : (t : ℕ) → Contains terminals t → ¬ ShareCell f.cells (free_level f.cells terminals) t t
  alone t h j = let zero : free_level f.cells terminals t ≡ 0 = query.alone t h in let some : 1 ≤ free_level f.cells terminals t = j.0 in omega arith

  -- so no vertex shares a cell with it
  pub apart : (t : ℕ) → Contains terminals t → (u : ℕ) → ¬ ShareCell f.cells (free_level f.cells terminals) u t
  apart t h u j = alone t h (query.lawful.cut.along t u t (query.lawful.cut.back u t j) j)

  start_below : (s : Start C) → Contains starts s → s.vertex < f.graph.vertices
  start_below s h = all_contains (λ t. t < f.graph.vertices) terminals s.vertex query.inside (query.starts_in s h)

  pub AreStarts-query : AreStarts ops (query_space ops f w terminals) starts
  AreStarts-query s h = (start_below s h, query.starts_unit s h)

  AreStarts-plain : AreStarts ops (arc_space ops f.graph w) starts
  AreStarts-plain s h = (start_below s h, query.starts_unit s h)

  pub valid_start : (s : Start C) → Contains starts s → ops.valid s.cost
  valid_start s h = laws.units_valid s.cost 1 (query.starts_unit s h)

  -- the whole is the plain graph
  whole : IsWhole K (arc_space ops f.graph w)
  whole u v s = (λ h. (tt, move_from_hop ops f.graph w u v s h), λ h. hop_from_move ops f.graph w u v s h.1)

  module _ (t : Target C) (asked : IsAsked ops f terminals t) where
    are_alone : AreAlone ops K (query_space ops f w terminals) (arc_space ops f.graph w) starts t.vertex
    are_alone = record {
      paid = valid_start;
      start = λ s h. alone s.vertex (query.starts_in s h);
      may = λ s h. (λ m. m.2, λ m. (start_below s h, tt, (m.0, m.1), inl (query.alone s.vertex (query.starts_in s h))));
      ends = alone t.vertex asked.among;
    }

    -- the cheapest path over the parts costs what one over the graph does
    down : (walk : List ℕ) (r : C) → IsLeastPath ops (query_space ops f w terminals) starts t.vertex walk r → (other : List ℕ) × IsLeastPath ops (arc_space ops f.graph w) starts t.vertex other r
    down = IsLeastPath-whole laws K query.lawful.cut (query_space ops f w terminals) query.lawful.over (arc_space ops f.graph w) whole starts t.vertex are_alone

    -- where no path leads to its vertex, no walk leads to the target
    pub NoneBetween-query : NoPathTo ops (query_space ops f w terminals) starts t.vertex → NoneBetween ops f.graph w starts t
    NoneBetween-query none = NoneBetween-from_path laws f.graph w starts t (NoPathTo-whole laws K query.lawful.cut (query_space ops f w terminals) query.lawful.over (arc_space ops f.graph w) whole starts t.vertex are_alone none)

    -- where each path to its vertex costs a limit or more over the parts, so does each over the graph
    pub IsBeyond-query : (limit : C) → IsBeyond ops (query_space ops f w terminals) starts t.vertex limit → IsBeyond ops (arc_space ops f.graph w) starts t.vertex limit
    IsBeyond-query limit beyond = IsBeyond-whole laws K query.lawful.cut (query_space ops f w terminals) query.lawful.over (arc_space ops f.graph w) whole starts t.vertex are_alone limit beyond

    -- where a path leads to it, its vertex is open
    pub query_closed : (walk : List ℕ) (r : C) → IsPathTo ops (query_space ops f w terminals) starts t.vertex walk r → slice_get w.vertex t.vertex ≡ Some None → ⊥
    query_closed walk r p none = elim ((query.lawful.over p.last t.vertex p.joins.0).0 p.joins.1) [
      | inl q ↦ let e : ◌≡◌ {A = Option C} None (Some q.1.1.1) = same_Some None (Some q.1.1.1) (sym none ∙ q.1.1.3) in cc
      | inr q ↦ apart t.vertex asked.among p.last q.1
    ]

    module _ (walk : List ℕ) (r : C) (path : IsLeastPath ops (query_space ops f w terminals) starts t.vertex walk r) (x : C) (o : IsOpen w t.vertex x) where
      weighting : IsWeighting ops f.graph w
      weighting = small_is_weighting laws f.graph w query.small

      -- the vertex's cost is a part of the path's
      pub query_parts : (rest : C) × ops.valid rest × (r ≡ ops.plus x rest)
      query_parts = let d = down walk r path in path_parts laws f.graph w starts t weighting AreStarts-plain asked.unit d.0 r d.1 x o

      pub query_units : (rest : C) → ops.valid rest → r ≡ ops.plus x rest → ops.units (ops.plus rest t.cost) (2 ^ 31)
      query_units rest v e = let d = down walk r path in rest_units laws f.graph w starts t weighting AreStarts-plain asked.unit d.0 r d.1 x o rest v e

      -- and with the target's cost in its place it is what a cheapest walk costs
      pub query_cost : (rest : C) → ops.valid rest → r ≡ ops.plus x rest → IsCostWith ops f.graph w starts t r (ops.plus rest t.cost)
      query_cost rest v e =
          let d = down walk r path in
          record { vertex = x; opens = o; rest = rest; valid = v; before = e; cost = refl; walk = d.0; least = IsLeastWalk-from_path laws f.graph w starts t weighting AreStarts-plain asked.unit d.0 r d.1 x o rest v e }
