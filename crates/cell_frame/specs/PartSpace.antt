-- What a search over parts goes over: arcs between parts, and through each part the least costs inside it.
use Rattle.std.specs.Prelude.{◌≡◌, ℕ, ◌<◌, ◌≤◌, ◌⊎◌, List, [], Some, nat_eq, if◌then◌else◌}
use Rattle.std.specs.List.{Contains, slice_get}
use Rattle.search_graph.specs.Costs.{CostOps}
use Rattle.search_graph.specs.Digraph.{Weighting, IsArc, IsOpen, Leaves}
use Rattle.step_search.specs.Spaces.{Space, IsSpace}
use Rattle.cut_walks.specs.Cut.{IsCut, IsOver, MayBegin}
use Rattle.cell_frame.specs.declared.crossings.Crossing.{Crossing}
use Rattle.cell_frame.specs.Borders.{Framed, IsEntry, at_cell, leaving_at}
use Rattle.cell_frame.specs.Parts.{whole_at, ShareCell, part_cut}

-- where the row out of u leads: to the exits of its part
abbrev pub row_heads : Framed → (ℕ → ℕ) → ℕ → List ℕ
row_heads f level u = if nat_eq (level u) 0 then [] else at_cell f.exits (whole_at f.cells level u)

-- and the name of that row: the level of the part, and the number of its cell
abbrev pub row_name : Framed → (ℕ → ℕ) → ℕ → ℕ × ℕ
row_name f level u = if nat_eq (level u) 0 then (0, 0) else (level u, (whole_at f.cells level u).number)

-- the arc that a name tells out of a vertex: out of one that is alone it is the arc's number, and else a place among the arcs
-- between cells
abbrev pub NamesArc : Framed → (ℕ → ℕ) → ℕ → ℕ → ℕ → Type 0
NamesArc f level u i arc = ((level u ≡ 0) × (i ≡ arc)) ⊎ ((1 ≤ level u) × (c : Crossing) × Contains (leaving_at f (level u) u) i × (slice_get f.crossings i ≡ Some c) × (c.arc ≡ arc))

-- A path may begin at an open vertex that is alone or an entry of its part. Arcs lead from part to part, and out of an
-- entry its row leads to the exits.
abbrev pub part_space : {C : Type 0} → CostOps C → Framed → Weighting C → (ℕ → Type 0) → (ℕ → ℕ) → Space C
part_space {C} ops f w In level = record {
  vertices = f.graph.vertices;
  May = λ v. (v < f.graph.vertices) × In v × ((x : C) × IsOpen w v x) × ((level v ≡ 0) ⊎ IsEntry f.graph f.cells (whole_at f.cells level v) v);
  Name = λ v i. (arc : ℕ) × NamesArc f level v i arc × Leaves f.graph arc v;
  Arc = λ u i v s. (arc : ℕ) × (a : C) × (x : C) × NamesArc f level u i arc × IsArc f.graph arc u v × (slice_get w.arc arc ≡ Some a) × IsOpen w v x × (s ≡ ops.plus a x) × In v × (¬ ShareCell f.cells level u v);
  heads = row_heads f level;
  Costs = λ u j s. (v : ℕ) × (slice_get (row_heads f level u) j ≡ Some v) × (part_cut ops f.graph f.cells w In level).Shortcut u v s;
  row = row_name f level;
}

-- what is true of each search over parts: its cut is lawful, its hops are those over the parts, it can be searched, and
-- its paths begin where chains over the parts may
pub record IsLawful {C : Type 0} (ops : CostOps C) (f : Framed) (w : Weighting C) (In : ℕ → Type 0) (level : ℕ → ℕ) : Type 0 where
  pub cut : IsCut ops (part_cut ops f.graph f.cells w In level)
  pub over : IsOver (part_cut ops f.graph f.cells w In level) (part_space ops f w In level)
  pub space : IsSpace ops (part_space ops f w In level)
  pub begins : (u : ℕ) → (part_space ops f w In level).May u → MayBegin (part_cut ops f.graph f.cells w In level) u
