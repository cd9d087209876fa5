-- A nested partition, as callers see it.
use Rattle.std.specs.Prelude.{◌≡◌, ℕ, ◌+◌, ◌-◌, ◌<◌, ◌≤◌, List, [], ◌∷◌, length, Contains, true, slice_index, nat_eq, slice_index_or, zero, suc, if◌then◌else◌}
use Rattle.std.specs.List.{list_any}
use Rattle.std.specs.List.Sorted.{IsPermutation}
use Rattle.cell_partition.specs.Bounds.{joined, cell_at}

-- how many vertices there are, and for each level, from the lowest, its cells: each the list of its vertices
pub record Partition : Type 0 where
  pub vertices : ℕ
  pub levels : List (List (List ℕ))

-- the cells of a level, counted from 1
abbrev pub level_at : Partition → ℕ → List (List ℕ)
level_at p level = slice_index_or p.levels (level - 1) []

-- the number of the cell that holds a vertex, counted from 0
abbrev pub number_of : List (List ℕ) → ℕ → ℕ
number_of [] vertex = 0
number_of (cell ∷ cells) vertex = if list_any (nat_eq vertex) cell then 0 else number_of cells vertex + 1

-- the numbers from 0 to n - 1, from the first on
abbrev pub numbers_from : ℕ → ℕ → List ℕ
numbers_from first zero = []
numbers_from first (suc n) = first ∷ numbers_from (first + 1) n

-- each of the vertices below n stands in one cell, and in it once
pub record IsPartition (n : ℕ) (cells : List (List ℕ)) : Type 0 where
  pub whole : IsPermutation (numbers_from 0 n) (joined cells)
  pub placed : (vertex : ℕ) → vertex < n → number_of cells vertex < length cells
  pub member : (vertex : ℕ) → vertex < n → Contains (cell_at cells (number_of cells vertex)) vertex
  pub only : (vertex cell : ℕ) → Contains (cell_at cells cell) vertex → (vertex < n) × (number_of cells vertex ≡ cell)

-- vertices that share a cell of the lower level share one of the upper level
abbrev pub IsNested : ℕ → List (List ℕ) → List (List ℕ) → Type 0
IsNested n lower upper = (one other : ℕ) → one < n → other < n → number_of lower one ≡ number_of lower other → number_of upper one ≡ number_of upper other

-- each level is a partition, and each is nested in the one above
pub record IsKept (p : Partition) : Type 0 where
  pub level : (level : ℕ) → 1 ≤ level → level ≤ length p.levels → IsPartition p.vertices (level_at p level)
  pub nested : (level : ℕ) → 1 ≤ level → level < length p.levels → IsNested p.vertices (level_at p level) (level_at p (level + 1))

-- the numbers of the vertices that stand in some cell
abbrev pub AreNumbered : List (List ℕ) → List ℕ → Type 0
AreNumbered cells numbers = (vertex : ℕ) → list_any (nat_eq vertex) (joined cells) ≡ true → slice_index numbers vertex ≡ number_of cells vertex
