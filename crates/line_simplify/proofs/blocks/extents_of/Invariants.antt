use Rattle.std.proofs.Common.{◌≡◌, ℕ, ◌+◌, ◌/◌, ◌<◌, length}
use Rattle.std.specs.Prelude.{Some}
use Rattle.std.specs.List.{slice_get}
use Rattle.road_base.specs.declared.coordinates.Point.{Point}
use Rattle.line_simplify.specs.Blocks.{HasAt}
use Rattle.line_simplify.proofs.blocks.extents_of.Given as goal

abbrev pub invariant-loop-i : goal.invariant-loop-i
invariant-loop-i l = record {
  count : length l.extents.items ≡ (l.i + 15) / 16;
  cover : (i : ℕ) (p : Point) → i < l.i → slice_get l.points i ≡ Some p → HasAt l.extents.items (i / 16) p;
}
