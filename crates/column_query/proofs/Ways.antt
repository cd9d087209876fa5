-- What a row stands on, and the ways by an entry of a target's part.
use Rattle.std.proofs.Common.{◌≡◌, ℕ, ◌<◌, ◌≤◌, ◌⊎◌, inl, inr, List, arith, refl, sym, subst}
use Rattle.std.specs.List.{Contains}
use Rattle.search_graph.specs.Costs.{CostOps, CostLaws}
use Rattle.search_graph.specs.declared.ends.Start.{Start}
use Rattle.search_graph.specs.Digraph.{Weighting}
use Rattle.step_search.specs.Paths.{AreStarts, IsPathTo}
use Rattle.step_search.specs.ArcSpace.{arc_space}
use Rattle.step_search.specs.ArcLaws.{move_from_hop, hop_from_move}
use Rattle.cut_walks.specs.Cut.{Cut, IsWhole}
use Rattle.cell_frame.specs.declared.cells.Cell.{Cell}
use Rattle.cell_frame.specs.Borders.{Framed, Holds, IsCell, at_cell}
use Rattle.cell_frame.specs.Cliqued.{CliqueLists}
use Rattle.cell_frame.specs.Free.{free_level}
use Rattle.cell_frame.specs.Inside.{IsInside}
use Rattle.cell_frame.specs.Parts.{ShareCell, whole_at, part_cut}
use Rattle.column_query.specs.Rows.{IsReady, row_space}

-- d is what a path over the parts to e costs, and a walk on to t inside the part of t
pub record GoesBy {C : Type 0} (ops : CostOps C) (f : Framed) (w : Weighting C) (vertices : List ℕ) (starts : List (Start C)) (t e : ℕ) (d : C) : Type 0 where
  pub walk : List ℕ
  pub paid : C
  pub path : IsPathTo ops (row_space ops f w vertices) starts e walk paid
  pub rest : List ℕ
  pub more : C
  pub inside : IsInside ops f.graph w (Holds f.cells (whole_at f.cells (free_level f.cells vertices) t)) e t rest more
  pub sum : d ≡ ops.plus paid more

module _ {C : Type 0} {ops : CostOps C} (laws : CostLaws ops) (f : Framed) (w : Weighting C) (cliques : CliqueLists C) (vertices : List ℕ) (starts : List (Start C)) (ready : IsReady ops f w cliques vertices starts) where
  abbrev pub row_cut : Cut C
  row_cut = part_cut ops f.graph f.cells w (λ v. Unit {0}) (free_level f.cells vertices)

  pub AreStarts-row : AreStarts ops (row_space ops f w vertices) starts
  AreStarts-row s h = (ready.starts_below s h, ready.starts_unit s h)

  pub AreStarts-arcs : AreStarts ops (arc_space ops f.graph w) starts
  AreStarts-arcs s h = (ready.starts_below s h, ready.starts_unit s h)

  pub valid_start : (s : Start C) → Contains starts s → ops.valid s.cost
  valid_start s h = laws.units_valid s.cost 1 (ready.starts_unit s h)

  -- the whole is the plain graph
  pub whole : IsWhole row_cut (arc_space ops f.graph w)
  whole u v s = (λ h. (tt, move_from_hop ops f.graph w u v s h), λ h. hop_from_move ops f.graph w u v s h.1)

  -- each start is alone
  pub start_alone : (s : Start C) → Contains starts s → ¬ ShareCell f.cells (free_level f.cells vertices) s.vertex s.vertex
  start_alone s h j = let zero : free_level f.cells vertices s.vertex ≡ 0 = ready.alone s.vertex (ready.starts_in s h) in let some : 1 ≤ free_level f.cells vertices s.vertex = j.0 in omega arith

  -- a path over the parts may begin at a start where a walk may
  pub may_begin : (s : Start C) → Contains starts s → (arc_space ops f.graph w).May s.vertex → (row_space ops f w vertices).May s.vertex
  may_begin s h m = (ready.starts_below s h, tt, m, inl (ready.alone s.vertex (ready.starts_in s h)))

  module _ (t : ℕ) (below : t < f.graph.vertices) (some : 1 ≤ free_level f.cells vertices t) where
    abbrev pub part : Cell
    part = whole_at f.cells (free_level f.cells vertices) t

    pub held : Holds f.cells part t
    held = let n : f.cells.vertices ≡ f.graph.vertices = ready.framed.vertices in (omega arith, refl)

    pub part_is_cell : IsCell f.cells part
    part_is_cell = (some, ready.high t, (ready.framed.kept.level (free_level f.cells vertices t) some (ready.high t)).placed t held.0)

    -- what the part holds shares it with t
    pub joined : (v : ℕ) → Holds f.cells part v → row_cut.Joined t v
    joined v h = (some, held, h)

    pub held_or_not : (v : ℕ) → Holds f.cells part v ⊎ (¬ Holds f.cells part v)
    held_or_not v = elim (ready.lawful.cut.joined_or_not t v) [ inl j ↦ inl j.2 | inr n ↦ inr (λ h. n (joined v h)) ]

    -- no start is in the part
    pub start_outside : (s : Start C) → Contains starts s → ¬ Holds f.cells part s.vertex
    start_outside s h i =
        let j : row_cut.Joined t s.vertex = joined s.vertex i in
        start_alone s h (ready.lawful.cut.along s.vertex t s.vertex (ready.lawful.cut.back t s.vertex j) j)

    -- and no vertex outside of it shares a cell with one inside
    pub apart : (u v : ℕ) → (¬ Holds f.cells part u) → Holds f.cells part v → ¬ row_cut.Joined u v
    apart u v out i j = out (ready.lawful.cut.along t v u (joined v i) (ready.lawful.cut.back u v j)).2

    -- no start is an entry of it
    pub entry_apart : (e : ℕ) → Contains (at_cell f.entries part) e → (s : Start C) → Contains starts s → s.vertex ≡ e → ⊥
    entry_apart e among s h same = start_outside s h (subst (λ (x : ℕ). Holds f.cells part x) (sym same) ((ready.framed.entries part e part_is_cell).0 among).0)
