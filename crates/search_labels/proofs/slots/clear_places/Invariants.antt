-- The vertices that have a place are those of the slots that are left to clear.
use Rattle.std.proofs.Common.{length}
use Rattle.search_labels.proofs.Slotted.{AreLeft}
use Rattle.search_labels.proofs.slots.clear_places.Given as goal

abbrev pub invariant-loop-slot : goal.invariant-loop-slot
invariant-loop-slot g l = AreLeft (length l.fn.table) l.table l.made l.slot-index
