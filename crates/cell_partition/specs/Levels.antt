-- A level as the code keeps it, and the tables by which a vertex finds its cells.
use Rattle.std.specs.Prelude.{◌≡◌, ℕ, ◌+◌, ◌<◌, ◌≤◌, List, Vec, length, map, slice_index, slice_index_or, All}
use Rattle.std.specs.Global.{Global}
use Rattle.cell_partition.specs.declared.level.Level.{Level}
use Rattle.cell_partition.specs.declared.tables.Tables.{Tables}
use Rattle.cell_partition.specs.Bounds.{joined, bounds_of, parts_at}
use Rattle.cell_partition.specs.Partition.{Partition, level_at, number_of, IsKept}

-- the cells that a level keeps
abbrev pub cells_of : Level → List (List ℕ)
cells_of level = parts_at level.bounds.items level.order.items

-- a level: its parts lie one behind another
pub record IsLevel (level : Level) : Type 0 where
  pub order : level.order.items ≡ joined (cells_of level)
  pub bounds : level.bounds.items ≡ bounds_of (cells_of level)
  pub few : length (cells_of level) < 4294967296

-- the partition that these levels are
abbrev pub partition_of : ℕ → List Level → Partition
partition_of vertices levels = record { vertices = vertices; levels = map cells_of levels }

-- for each cell of the lower level, the cell of the upper level that holds its vertices
pub record IsTable (n : ℕ) (lower upper : List (List ℕ)) (table : List ℕ) : Type 0 where
  pub size : length table ≡ length lower
  pub held : (vertex : ℕ) → vertex < n → slice_index table (number_of lower vertex) ≡ number_of upper vertex

-- the tables of the levels above the lowest, up to this one
pub record AreAbove (p : Partition) (above : List (Vec ℕ Global)) (level : ℕ) : Type 0 where
  pub size : length above + 1 ≡ level
  pub tables : (k : ℕ) (none : Vec ℕ Global) → k < length above → IsTable p.vertices (level_at p 1) (level_at p (k + 2)) (slice_index_or above k none).items

-- the number of each vertex in the lowest level, and the tables of the levels above it
pub record AreTables (p : Partition) (tables : Tables) : Type 0 where
  pub size : 1 ≤ length p.levels → length tables.lowest.items ≡ p.vertices
  pub lowest : 1 ≤ length p.levels → (vertex : ℕ) → vertex < p.vertices → slice_index tables.lowest.items vertex ≡ number_of (level_at p 1) vertex
  pub above : 1 ≤ length p.levels → AreAbove p tables.above.items (length p.levels)

-- what the levels of a partition keep
pub record AreKept (vertices : ℕ) (kept : List Level) (tables : Tables) : Type 0 where
  pub levels : All IsLevel kept
  pub few : length kept < 4294967296
  pub partition : IsKept (partition_of vertices kept)
  pub numbers : AreTables (partition_of vertices kept) tables
