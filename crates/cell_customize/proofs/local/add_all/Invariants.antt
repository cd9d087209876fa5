use Rattle.std.proofs.Common.{◌≡◌, ℕ, ◌<◌, Some, Contains}
use Rattle.std.specs.List.{slice_get}
use Rattle.cell_customize.specs.Numbers.{AreBelow, Grows}
use Rattle.cell_customize.proofs.local.add_all.Given as goal

-- the vertices so far have numbers
abbrev pub invariant-loop-v : goal.invariant-loop-v
invariant-loop-v l = record {
  named : (k w : ℕ) → k < l.v-index → slice_get l.vertices k ≡ Some w → Contains l.numbers w;
  grows : (n : ℕ) → AreBelow n l.vertices → Grows n l.initial.numbers l.numbers;
}
