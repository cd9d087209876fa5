-- For the functions of this crate alone: how the entries and exits of a level are found, by marks at the ends of arcs
-- between cells, the marked vertices, and their cells.
use Rattle.std.specs.Prelude.{◌≡◌, ℕ, ◌<◌, ◌≤◌, Bool, true, false, List, length, Some}
use Rattle.std.specs.List.{slice_get, Contains}
use Rattle.search_graph.specs.Digraph.{Digraph, IsArc}
use Rattle.cell_partition.specs.Partition.{Partition, level_at, number_of}
use Rattle.cell_frame.specs.Borders.{Listed}
use Rattle.cell_frame.specs.declared.side.Side.{Side}
use Rattle.cell_frame.specs.declared.side.Side.TheVariants.{Entries, Exits}

-- the end of an arc on this side
abbrev pub end_of : Side → ℕ → ℕ → ℕ
end_of Entries tail head = head
end_of Exits tail head = tail

-- of the arcs before number m, v is the end on this side of one that leads from one cell of the level to another
abbrev pub IsEnd : Digraph → Partition → ℕ → Side → ℕ → ℕ → Type 0
IsEnd g p level side m v = (i : ℕ) × (tail : ℕ) × (head : ℕ) × (i < m) × IsArc g i tail head × (¬ (number_of (level_at p level) tail ≡ number_of (level_at p level) head)) × (v ≡ end_of side tail head)

-- the marks are those of the arcs before number m
pub record AreMarked (g : Digraph) (p : Partition) (level : ℕ) (side : Side) (m : ℕ) (marks : List Bool) : Type 0 where
  pub size : length marks ≡ g.vertices
  pub marked : (v : ℕ) → slice_get marks v ≡ Some true → IsEnd g p level side m v
  pub found : (v : ℕ) → v < g.vertices → IsEnd g p level side m v → slice_get marks v ≡ Some true

-- the marked ones of the vertices below m, ascending
pub record AreChosen (marks : List Bool) (m : ℕ) (chosen : List ℕ) : Type 0 where
  pub few : length chosen ≤ m
  pub is_marked : (k v : ℕ) → slice_get chosen k ≡ Some v → (v < m) × (slice_get marks v ≡ Some true)
  pub all : (v : ℕ) → v < m → slice_get marks v ≡ Some true → Contains chosen v
  pub rises : (k l v w : ℕ) → k < l → slice_get chosen k ≡ Some v → slice_get chosen l ≡ Some w → v < w

-- of the first n levels, none has a list with a vertex whose mark is false
abbrev pub AreUnlisted : List Listed → ℕ → List Bool → Type 0
AreUnlisted borders n marks = (v l : ℕ) (b : Listed) → slice_get marks v ≡ Some false → l < n → slice_get borders l ≡ Some b → ¬ Contains b.vertex v
