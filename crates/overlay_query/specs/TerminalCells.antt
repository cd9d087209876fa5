-- For the functions of this crate alone: which cells hold a terminal, looked up beforehand.
use Rattle.std.specs.Prelude.{◌≡◌, ℕ, ◌+◌, ◌<◌, ◌≤◌, Bool, List, All, length, nat_eq, Some}
use Rattle.std.specs.List.{slice_get, list_any}
use Rattle.cell_partition.specs.Partition.{Partition, level_at, number_of}
use Rattle.cell_frame.specs.Borders.{Framed}
use Rattle.cell_frame.specs.Free.{free_level}
use Rattle.cell_frame.specs.PartSpace.{row_name}

-- whether each cell of a level holds a terminal, by its number
pub record AreMarksAt (p : Partition) (terminals : List ℕ) (level : ℕ) (marks : List Bool) : Type 0 where
  pub size : length marks ≡ length (level_at p level)
  pub each : (n : ℕ) (mark : Bool) → slice_get marks n ≡ Some mark → mark ≡ list_any (λ t. nat_eq n (number_of (level_at p level) t)) terminals

-- those of each of the first m levels, from the lowest
pub record AreMarksUpTo (p : Partition) (terminals : List ℕ) (levels : List (List Bool)) (m : ℕ) : Type 0 where
  pub size : length levels ≡ m
  pub each : (i : ℕ) (marks : List Bool) → slice_get levels i ≡ Some marks → AreMarksAt p terminals (i + 1) marks

-- those of all levels, where the terminals are vertices
pub record AreTerminalMarks (f : Framed) (terminals : List ℕ) (levels : List (List Bool)) : Type 0 where
  pub inside : All (λ t. t < f.graph.vertices) terminals
  pub cells : AreMarksUpTo f.cells terminals levels (length f.cells.levels)

-- the first n cells of the lowest level have the names of the parts in which their vertices are
pub record AreNames (f : Framed) (terminals : List ℕ) (names : List (ℕ × ℕ)) (n : ℕ) : Type 0 where
  pub size : length names ≡ n
  pub each : (v : ℕ) → v < f.graph.vertices → number_of (level_at f.cells 1) v < n → slice_get names (number_of (level_at f.cells 1) v) ≡ Some (row_name f (free_level f.cells terminals) v)

-- Where there are levels, each vertex finds the name of its part at its cell of the lowest one, and else there are no names. The
-- terminals are vertices.
pub record AreTerminalCells (f : Framed) (terminals : List ℕ) (names : List (ℕ × ℕ)) : Type 0 where
  pub inside : All (λ t. t < f.graph.vertices) terminals
  pub some : 0 < length names → 1 ≤ length f.cells.levels
  pub each : 1 ≤ length f.cells.levels → (v : ℕ) → v < f.graph.vertices → slice_get names (number_of (level_at f.cells 1) v) ≡ Some (row_name f (free_level f.cells terminals) v)
