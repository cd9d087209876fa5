use Rattle.std.proofs.Common.{◌≡◌, take}
use Rattle.snap_index.proofs.IndexLemmas.{segments_of}
use Rattle.snap_index.proofs.indexes.order_of.Given as goal

abbrev pub invariant-loop-i : goal.invariant-loop-i
invariant-loop-i l = l.order.items ≡ take l.i (segments_of l.spots.items)
