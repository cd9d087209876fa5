use Rattle.std.proofs.Common.{◌≡◌, length}
use Rattle.std.specs.List.{AllByRecursion}
use Rattle.snap_index.specs.Candidates.{IsEmptySlot}
use Rattle.snap_index.proofs.snapping.empty_slots.Given as goal

abbrev pub invariant-loop : goal.invariant-loop
invariant-loop l = record {
  count : length l.slots.items ≡ l.counter;
  empty : AllByRecursion IsEmptySlot l.slots.items;
}
