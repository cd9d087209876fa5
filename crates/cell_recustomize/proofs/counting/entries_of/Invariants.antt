use Rattle.std.proofs.Common.{◌≤◌, ◌<◌, ◌^◌}
use Rattle.std.specs.Prelude.{slice_index}
use Rattle.cell_recustomize.specs.Touched.{IsEntryCount}
use Rattle.cell_recustomize.proofs.Counted.{IsMarkedBelow, first_at}
use Rattle.cell_recustomize.proofs.counting.entries_of.Given as goal

-- the entries of the cells so far are counted, no more than stand in the list of all
abbrev pub invariant-loop-number : goal.invariant-loop-number
invariant-loop-number l = record {
  count : IsEntryCount l.frame (IsMarkedBelow l.level l.marks l.number) l.count;
  within : l.count ≤ slice_index (first_at l.frame l.level) l.number;
  few : l.count < 2 ^ 32;
}
