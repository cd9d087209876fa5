-- The rows that are left to clear are among the touched ones.
use Rattle.std.proofs.Common.{vec_len}
use Rattle.row_labels.specs.Blocks.{AreTouched}
use Rattle.row_labels.proofs.blocks.clear_spans.Given as goal

abbrev pub invariant-loop-level : goal.invariant-loop-level
invariant-loop-level l = AreTouched l.levels.items l.touched.items

abbrev pub decreases-loop-level : goal.decreases-loop-level
decreases-loop-level l = vec_len l.touched
