use Rattle.std.proofs.Common.{◌≡◌, take}
use Rattle.snap_index.specs.Ends.{all_ends}
use Rattle.snap_index.proofs.grids.ends_of.Given as goal

abbrev pub invariant-loop-segment : goal.invariant-loop-segment
invariant-loop-segment l = l.ends.items ≡ take l.segment (all_ends l.network.segments)
