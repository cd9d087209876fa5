use Rattle.std.proofs.Common.{◌≡◌, ℕ, ◌<◌, Some}
use Rattle.std.specs.List.{slice_get}
use Rattle.cell_customize.specs.Leaping.{IsGoal}
use Rattle.cell_customize.proofs.leaps.mark_all.Given as goal

-- the numbers of the vertices so far are marked
abbrev pub invariant-loop-v : goal.invariant-loop-v
invariant-loop-v l = (j v b : ℕ) → j < l.v-index → slice_get l.vertices j ≡ Some v → slice_get l.numbers b ≡ Some v → IsGoal l.goals b
