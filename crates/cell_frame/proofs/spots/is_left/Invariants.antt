-- The arcs so far stay in the cell.
use Rattle.std.proofs.Common.{◌≡◌, ℕ, ◌<◌, Some}
use Rattle.std.specs.List.{slice_get}
use Rattle.search_graph.specs.Digraph.{IsArc}
use Rattle.cell_partition.specs.Partition.{level_at, number_of}
use Rattle.cell_frame.proofs.spots.is_left.Given as goal

abbrev pub invariant-loop-place : goal.invariant-loop-place
invariant-loop-place l = (n arc w : ℕ) → n < l.place → slice_get l.arcs n ≡ Some arc → IsArc l.cut.graph.now arc l.v w → number_of (level_at l.cut.cells.now 1) l.v ≡ number_of (level_at l.cut.cells.now 1) w
