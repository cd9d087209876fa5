use Rattle.std.proofs.Common.{◌≡◌, ℕ, ◌<◌, length, get_or}
use Rattle.cell_partition.proofs.tables.table_of.Given as goal

-- the cells of the vertices so far are written
abbrev pub invariant-loop-vertex : goal.invariant-loop-vertex
invariant-loop-vertex l = record {
  size : length l.table.items ≡ l.count;
  written : (vertex : ℕ) → vertex < l.vertex → get_or l.table.items (get_or l.lowest vertex 0) 0 ≡ get_or l.upper vertex 0;
}
