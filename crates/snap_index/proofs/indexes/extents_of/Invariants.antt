use Rattle.std.proofs.Common.{◌≡◌, ℕ, ◌+◌, ◌/◌, ◌<◌, length}
use Rattle.std.specs.Prelude.{Some}
use Rattle.std.specs.List.{slice_get}
use Rattle.snap_index.specs.Index.{HasAt}
use Rattle.snap_index.specs.declared.grids.SegmentEnds.{SegmentEnds}
use Rattle.snap_index.proofs.indexes.extents_of.Given as goal

abbrev pub invariant-loop-i : goal.invariant-loop-i
invariant-loop-i l = record {
  count : length l.extents.items ≡ (l.i + 15) / 16;
  cover : (i s : ℕ) (line : SegmentEnds) → i < l.i → slice_get l.order i ≡ Some s → slice_get l.lines s ≡ Some line → HasAt l.extents.items (i / 16) line;
}
