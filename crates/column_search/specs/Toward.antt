-- For the functions of this crate alone: the parts of a search inside a cell to a vertex that it holds. Each vertex is in its
-- highest cell below that cell which doesn't hold that vertex, or alone.
use Rattle.std.specs.Prelude.{◌≡◌, ℕ, zero, suc, ◌-◌, ◌≤◌, ◌⊎◌, List, nat_eq, if◌then◌else◌}
use Rattle.search_graph.specs.Costs.{CostOps}
use Rattle.search_graph.specs.Digraph.{Weighting}
use Rattle.search_graph.specs.Weighted.{AreSmall}
use Rattle.cell_partition.specs.Partition.{Partition, level_at, number_of}
use Rattle.cell_frame.specs.declared.cells.Cell.{Cell}
use Rattle.cell_frame.specs.Borders.{Framed, IsFramed, IsCell, Holds, IsEntry}
use Rattle.cell_frame.specs.Cliqued.{AreExact, CliqueLists}
use Rattle.cell_frame.specs.Parts.{AreParts, whole_at}
use Rattle.cell_frame.specs.PartSpace.{IsLawful}

-- the highest level up to this one at which the cell of v doesn't hold t, 0 where there is none
abbrev pub apart_up_to : Partition → ℕ → ℕ → ℕ → ℕ
apart_up_to p t v zero = 0
apart_up_to p t v (suc level) = if nat_eq (number_of (level_at p (suc level)) v) (number_of (level_at p (suc level)) t) then apart_up_to p t v level else suc level

-- the same of the levels below cell k
abbrev pub level_toward : Partition → Cell → ℕ → ℕ → ℕ
level_toward p k t v = apart_up_to p t v (k.level - 1)

-- they are parts of cell k, t is alone, and an entry of the cell is alone or an entry of its part
pub record AreToward (f : Framed) (k : Cell) (t : ℕ) : Type 0 where
  pub parts : AreParts f.cells (Holds f.cells k) (level_toward f.cells k t)
  pub high : (v : ℕ) → level_toward f.cells k t v ≤ k.level - 1
  pub alone : level_toward f.cells k t t ≡ 0
  pub enters : (v : ℕ) → IsEntry f.graph f.cells k v → (level_toward f.cells k t v ≡ 0) ⊎ IsEntry f.graph f.cells (whole_at f.cells (level_toward f.cells k t) v) v

-- what a search to t inside cell k stands on
pub record IsToward {C : Type 0} (ops : CostOps C) (f : Framed) (w : Weighting C) (cliques : CliqueLists C) (k : Cell) (t : ℕ) : Type 0 where
  pub framed : IsFramed f
  pub small : AreSmall ops f.graph w
  pub exact : AreExact ops f w cliques (k.level - 1)
  pub is_cell : IsCell f.cells k
  pub held : Holds f.cells k t
  pub toward : AreToward f k t
  pub lawful : IsLawful ops f w (Holds f.cells k) (level_toward f.cells k t)
