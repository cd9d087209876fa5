-- Laws of a search inside a cell: what it finds from an entry to an exit is the least cost inside the cell.
use Rattle.std.proofs.Common.{◌≡◌, ◌≢◌, ℕ, ◌-◌, ◌<◌, ◌≤◌, inl, inr, Option, Some, None, List, [], ◌∷◌, length, refl, sym, ◌∙◌, subst, arith}
use Rattle.std.specs.List.{Contains, slice_get}
use Rattle.std.proofs.lemmas.Option.{same_Some}
use Rattle.search_graph.specs.Costs.{CostOps, CostLaws, NoDearer}
use Rattle.search_graph.specs.declared.ends.Start.{Start}
use Rattle.search_graph.specs.Digraph.{Digraph, Weighting, IsOpen}
use Rattle.search_graph.specs.OrderLaws.{le_trans}
use Rattle.search_graph.specs.ChainLaws.{Chain-valid}
use Rattle.step_search.specs.Paths.{AreStarts, IsPathTo, IsLeastPath, NoPathTo}
use Rattle.cut_walks.specs.Cut.{Cut, MayEnd, AreAcross}
use Rattle.cut_walks.specs.Answering.{only_one, goes_from_path, path_from_goes}
use Rattle.cell_frame.specs.declared.cells.Cell.{Cell}
use Rattle.cell_frame.specs.Borders.{Framed, Holds, IsEntry, at_cell}
use Rattle.cell_frame.specs.Cliqued.{CliqueLists}
use Rattle.cell_frame.specs.Inside.{IsMoveIn, IsInside, IsLeastInside}
use Rattle.cell_frame.specs.Parts.{ShareCell, part_cut}
use Rattle.cell_customize.specs.Inner.{inner_space, IsInner}

-- from a closed vertex no walk leads
pub closed_none : {C : Type 0} (ops : CostOps C) (g : Digraph) (w : Weighting C) (In : ℕ → Type 0) (u v : ℕ) (vs : List ℕ) (d : C) → slice_get w.vertex u ≡ Some None → ¬ IsInside ops g w In u v vs d
closed_none {C} ops g w In u v vs d none h = let e : ◌≡◌ {A = Option C} None (Some h.opens.0) = same_Some None (Some h.opens.0) (sym none ∙ h.opens.1) in cc

-- one start, at what is nothing
pub one_is : {C : Type 0} (u : ℕ) {a b : C} → a ≡ b → ◌≡◌ {A = List (Start C)} (record { vertex = u; cost = a } ∷ []) (record { vertex = u; cost = b } ∷ [])
one_is u e = cc

module _ {C : Type 0} {ops : CostOps C} (laws : CostLaws ops) (f : Framed) (w : Weighting C) (cliques : CliqueLists C) (k : Cell) (inner : IsInner ops f w cliques k) (entry : ℕ) (among : Contains (at_cell f.entries k) entry) where
  abbrev the_start : Start C
  the_start = record { vertex = entry; cost = ops.zero }

  abbrev inner_cut : Cut C
  inner_cut = part_cut ops f.graph f.cells w (Holds f.cells k) (λ v. k.level - 1)

  is_entry : IsEntry f.graph f.cells k entry
  is_entry = (inner.framed.entries k entry inner.is_cell).0 among

  pub entry_below : entry < f.graph.vertices
  entry_below = let lt : entry < f.cells.vertices = is_entry.0.0 in let n : f.cells.vertices ≡ f.graph.vertices = inner.framed.vertices in omega arith

  pub entry_weighed : entry < length w.vertex
  entry_weighed = let lt : entry < f.graph.vertices = entry_below in let n : length w.vertex ≡ f.graph.vertices = inner.small.vertices in omega arith

  -- to stay at an open entry costs nothing
  pub stays : (x : C) → IsOpen w entry x → IsLeastInside ops f.graph w (Holds f.cells k) entry entry ops.zero
  stays x o = record {
    walk = [];
    leads = record { begins = is_entry.0; opens = (x, o); goes = (refl, refl) };
    least = λ other e h. laws.zero_least e (Chain-valid laws {Hop = IsMoveIn ops f.graph w (Holds f.cells k)} (λ a b s m. subst ops.valid (sym m.1.4) (laws.plus_valid m.1.0 m.1.1 (laws.units_valid m.1.0 1 (inner.small.arc_unit m.1.2.0 m.1.0 m.1.2.2)) (laws.units_valid m.1.1 1 (inner.small.vertex_unit b m.1.1 m.1.3))))
        entry entry ops.zero e other laws.zero_valid h.goes);
  }

  pub AreStarts-inner : (starts : List (Start C)) → starts ≡ the_start ∷ [] → AreStarts ops (inner_space ops f w k) starts
  AreStarts-inner starts is s h =
      let same : the_start ≡ s = sym (only_one the_start s (subst (λ (xs : List (Start C)). Contains xs s) is h)) in
      (subst (λ (x : Start C). x.vertex < f.graph.vertices) same entry_below, subst (λ (x : Start C). ops.units x.cost 1) same (laws.units_more ops.zero 0 1 laws.zero_units (omega arith)))

  -- an open entry is where a path may begin
  may : (x : C) → IsOpen w entry x → (inner_space ops f w k).May entry
  may x o = (entry_below, is_entry.0, (x, o), inner.borders.entries entry is_entry)

  module _ (exit : ℕ) (is : Contains (at_cell f.exits k) exit) (other : entry ≢ exit) where
    -- and an exit where one may end
    ends : MayEnd inner_cut exit
    ends = elim (inner.borders.exits exit ((inner.framed.exits k exit inner.is_cell).0 is)) [
      | inl alone ↦ inl (λ (j : ShareCell f.cells (λ v. k.level - 1) exit exit). let some : 1 ≤ k.level - 1 = j.0 in omega (arith, alone))
      | inr leaves ↦ inr leaves
    ]

    across : (inner_space ops f w k).May entry → AreAcross ops inner_cut (inner_space ops f w k) the_start exit
    across m = record { free = refl; begins = inner.lawful.begins entry m; may = m; ends = ends; apart = other }

    -- a walk inside the cell is matched by a path
    path_from_inside : (vs : List ℕ) (d : C) → IsInside ops f.graph w (Holds f.cells k) entry exit vs d → (walk : List ℕ) × (e : C) × IsPathTo ops (inner_space ops f w k) (the_start ∷ []) exit walk e × NoDearer ops e d
    path_from_inside vs d h = path_from_goes laws inner_cut inner.lawful.cut (inner_space ops f w k) inner.lawful.over the_start exit (across (may h.opens.0 h.opens.1)) vs d h.goes

    module _ (starts : List (Start C)) (one : starts ≡ the_start ∷ []) where
      pub inside_least : (walk : List ℕ) (r : C) → IsLeastPath ops (inner_space ops f w k) starts exit walk r → IsLeastInside ops f.graph w (Holds f.cells k) entry exit r
      inside_least walk r path =
          let p : IsLeastPath ops (inner_space ops f w k) (the_start ∷ []) exit walk r = subst (λ (s : List (Start C)). IsLeastPath ops (inner_space ops f w k) s exit walk r) one path in
          let at : p.leads.start ≡ the_start = only_one the_start p.leads.start p.leads.among in
          let m : (inner_space ops f w k).May entry = subst (λ (s : Start C). (inner_space ops f w k).May s.vertex) at p.leads.may in
          let g = goes_from_path laws inner_cut inner.lawful.cut (inner_space ops f w k) inner.lawful.over the_start exit (across m) walk r p.leads in
          record {
            walk = g.0;
            leads = record { begins = is_entry.0; opens = m.2; goes = g.1 };
            least = λ vs e h. let q = path_from_inside vs e h in le_trans laws r q.1 e (p.least q.0 q.1 q.2) q.3;
          }

      pub inside_none : NoPathTo ops (inner_space ops f w k) starts exit → (vs : List ℕ) (d : C) → ¬ IsInside ops f.graph w (Holds f.cells k) entry exit vs d
      inside_none none vs d h =
          let n : NoPathTo ops (inner_space ops f w k) (the_start ∷ []) exit = subst (λ (s : List (Start C)). NoPathTo ops (inner_space ops f w k) s exit) one none in
          let q = path_from_inside vs d h in
          n q.0 q.1 q.2
