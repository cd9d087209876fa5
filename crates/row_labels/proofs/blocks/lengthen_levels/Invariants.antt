-- The levels stay, and there are more of them.
use Rattle.std.proofs.Common.{◌≡◌, ℕ, ◌-◌, vec_len}
use Rattle.row_labels.specs.Rowed.{spans_of}
use Rattle.row_labels.proofs.blocks.lengthen_levels.Given as goal

abbrev pub invariant-loop-alloc : goal.invariant-loop-alloc
invariant-loop-alloc l = (n : ℕ) → spans_of l.levels.items n ≡ spans_of l.fn.levels.items n

abbrev pub decreases-loop-alloc : goal.decreases-loop-alloc
decreases-loop-alloc l = l.count - vec_len l.levels
