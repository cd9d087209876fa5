-- The parts that a search sees: at each vertex a cell of some level, or the vertex alone.
use Rattle.std.specs.Prelude.{◌≡◌, ℕ, ◌≤◌, ◌-◌, ◌⊎◌}
use Rattle.search_graph.specs.Costs.{CostOps}
use Rattle.search_graph.specs.Digraph.{Digraph, Weighting, IsOpen}
use Rattle.cell_partition.specs.Partition.{Partition}
use Rattle.cell_frame.specs.declared.cells.Cell.{Cell}
use Rattle.cell_frame.specs.Borders.{cell_of, Holds, IsEntry, IsExit}
use Rattle.cell_frame.specs.Inside.{IsMoveIn, IsLeastInside}
use Rattle.cut_walks.specs.Cut.{Cut}

-- the cell that a vertex is in, by the level of each vertex
abbrev pub whole_at : Partition → (ℕ → ℕ) → ℕ → Cell
whole_at p level u = cell_of p (level u) u

-- u and v are in one part that is a cell; level 0 is no cell's, so that its vertices are alone
abbrev pub ShareCell : Partition → (ℕ → ℕ) → ℕ → ℕ → Type 0
ShareCell p level u v = (1 ≤ level u) × Holds p (whole_at p level u) u × Holds p (whole_at p level u) v

-- the levels are those of parts: what shares a cell has its level, and with one vertex of a part `In` has all
pub record AreParts (p : Partition) (In : ℕ → Type 0) (level : ℕ → ℕ) : Type 0 where
  pub steady : (u v : ℕ) → ShareCell p level u v → level v ≡ level u
  pub inner : (u v : ℕ) → ShareCell p level u v → In u → In v

-- the moves in `In`, cut into these parts, with what walks cost inside them as shortcuts
abbrev pub part_cut : {C : Type 0} → CostOps C → Digraph → Partition → Weighting C → (ℕ → Type 0) → (ℕ → ℕ) → Cut C
part_cut {C} ops g p w In level = record {
  Open = λ v. In v × (x : C) × IsOpen w v x;
  Hop = λ u v s. IsMoveIn ops g w In u v s;
  Joined = λ u v. ShareCell p level u v;
  Entry = λ v. IsEntry g p (whole_at p level v) v;
  Exit = λ v. IsExit g p (whole_at p level v) v;
  Shortcut = λ u v s. In u × ShareCell p level u v × IsEntry g p (whole_at p level u) u × IsExit g p (whole_at p level u) v × IsLeastInside ops g w (Holds p (whole_at p level u)) u v s;
}

-- what borders a cell borders the cell below it that holds it, where there are cells below
pub record AreBordersBelow (g : Digraph) (p : Partition) (k : Cell) : Type 0 where
  pub entries : (v : ℕ) → IsEntry g p k v → (k.level - 1 ≡ 0) ⊎ IsEntry g p (cell_of p (k.level - 1) v) v
  pub exits : (v : ℕ) → IsExit g p k v → (k.level - 1 ≡ 0) ⊎ IsExit g p (cell_of p (k.level - 1) v) v
