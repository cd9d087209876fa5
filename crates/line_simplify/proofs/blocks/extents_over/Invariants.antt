use Rattle.std.proofs.Common.{◌≡◌, ℕ, ◌+◌, ◌/◌, ◌<◌, length}
use Rattle.line_simplify.specs.Blocks.{HasAt}
use Rattle.road_base.specs.declared.coordinates.Point.{Point}
use Rattle.line_simplify.proofs.blocks.extents_over.Given as goal

abbrev pub invariant-loop-i : goal.invariant-loop-i
invariant-loop-i l = record {
  count : length l.extents.items ≡ (l.i + 15) / 16;
  cover : (k : ℕ) (p : Point) → k < l.i → HasAt l.parts k p → HasAt l.extents.items (k / 16) p;
}
