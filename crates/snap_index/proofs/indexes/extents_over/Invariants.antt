use Rattle.std.proofs.Common.{◌≡◌, ℕ, ◌+◌, ◌/◌, ◌<◌, length}
use Rattle.snap_index.specs.Index.{HasAt}
use Rattle.snap_index.specs.declared.grids.SegmentEnds.{SegmentEnds}
use Rattle.snap_index.proofs.indexes.extents_over.Given as goal

abbrev pub invariant-loop-i : goal.invariant-loop-i
invariant-loop-i l = record {
  count : length l.extents.items ≡ (l.i + 15) / 16;
  cover : (k : ℕ) (line : SegmentEnds) → k < l.i → HasAt l.parts k line → HasAt l.extents.items (k / 16) line;
}
