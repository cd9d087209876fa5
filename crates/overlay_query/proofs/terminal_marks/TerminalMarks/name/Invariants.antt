-- The cells of the levels above each hold a terminal.
use Rattle.std.proofs.Common.{◌≡◌, ℕ, ◌<◌, ◌≤◌, length}
use Rattle.cell_partition.specs.Partition.{level_at, number_of}
use Rattle.cell_frame.specs.Free.{free_up_to}
use Rattle.overlay_query.proofs.terminal_marks.TerminalMarks.name.Given as goal

abbrev pub invariant-loop-level : goal.invariant-loop-level
invariant-loop-level l = record {
  low : l.level ≤ length l.frame.cells.levels;
  same : (v : ℕ) → v < l.frame.graph.vertices → number_of (level_at l.frame.cells 1) v ≡ l.lowest → free_up_to l.frame.cells l.self.vertices.now v (length l.frame.cells.levels) ≡ free_up_to l.frame.cells l.self.vertices.now v l.level;
}

abbrev pub decreases-loop-level : goal.decreases-loop-level
decreases-loop-level l = l.level
