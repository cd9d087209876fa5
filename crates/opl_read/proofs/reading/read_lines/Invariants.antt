use Rattle.std.proofs.Common.{◌≡◌, ◌+◌, ◌≤◌, length}
use Rattle.opl_read.specs.Objects.{AreDistinct, lines_of, objects_after, opl_objects}
use Rattle.opl_read.specs.Seen.{AreSeen}
use Rattle.opl_read.proofs.reading.read_lines.Given as goal

-- the objects so far, and the lines that are left, make the text's objects; just their ids were seen
abbrev pub invariant-loop-rest : goal.invariant-loop-rest
invariant-loop-rest l = record {
  count : l.number + length l.rest ≤ length l.bytes;
  left : objects_after l.number l.objects.items (lines_of l.rest) ≡ opl_objects l.bytes;
  seen : AreSeen l.objects.items l.seen;
  distinct : AreDistinct l.objects.items;
}

abbrev pub decreases-loop-rest : goal.decreases-loop-rest
decreases-loop-rest l = length l.rest
