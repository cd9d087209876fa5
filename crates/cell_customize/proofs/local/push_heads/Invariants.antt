use Rattle.std.proofs.Common.{◌≡◌, ℕ, ◌+◌, length}
use Rattle.cell_customize.specs.Numbers.{AreBelow, Grows, Keeps}
use Rattle.cell_customize.specs.Local.{AreHeads}
use Rattle.cell_customize.proofs.local.push_heads.Given as goal

-- the numbers of the vertices so far stand behind the heads
abbrev pub invariant-loop-v : goal.invariant-loop-v
invariant-loop-v l = record {
  grows : (n : ℕ) → AreBelow n l.vertices → Grows n l.initial.numbers l.numbers;
  keeps : Keeps l.initial.heads.items l.heads.items;
  size : length l.heads.items ≡ length l.initial.heads.items + l.v-index;
  heads : AreHeads l.numbers l.heads.items (length l.initial.heads.items) l.vertices l.v-index;
}
