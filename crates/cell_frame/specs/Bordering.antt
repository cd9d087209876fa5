-- For the functions of this crate alone: the entries, or the exits, of the cells of one level and of all.
use Rattle.std.specs.Prelude.{◌≡◌, ℕ, ◌+◌, ◌<◌, ◌↔◌, List, length, Some}
use Rattle.std.specs.List.{slice_get, Contains}
use Rattle.std.specs.List.Sorted.{IsStrictlyIncreasing}
use Rattle.search_graph.specs.Digraph.{Digraph}
use Rattle.cell_partition.specs.Partition.{Partition, level_at, number_of}
use Rattle.cell_frame.specs.declared.side.Side.{Side}
use Rattle.cell_frame.specs.Borders.{Listed, list_at, HasList}
use Rattle.cell_frame.specs.Marks.{IsEnd}

-- each list ascends, and has those of its cell that are ends of arcs between cells
pub record IsBorder (g : Digraph) (p : Partition) (level : ℕ) (side : Side) (b : Listed) : Type 0 where
  pub has : (n : ℕ) → n < length (level_at p level) → HasList b n
  pub holds : (n v : ℕ) → n < length (level_at p level) → Contains (list_at b n) v ↔ ((v < p.vertices) × (number_of (level_at p level) v ≡ n) × IsEnd g p level side (length g.arcs) v)
  pub ascends : (n : ℕ) → n < length (level_at p level) → IsStrictlyIncreasing (list_at b n)

-- those of the first m levels
pub record AreBorders (g : Digraph) (p : Partition) (side : Side) (borders : List Listed) (m : ℕ) : Type 0 where
  pub size : length borders ≡ m
  pub each : (i : ℕ) (b : Listed) → slice_get borders i ≡ Some b → IsBorder g p (i + 1) side b
