use Rattle.std.proofs.Common.{◌≡◌, ◌-◌, ◌≤◌, [], replicate, vec_len}
use Rattle.memory_doors.specs.SteadyDoors.{new_steady_door}
use Rattle.memory_doors.proofs.steady_doors.empty_doors.Given as goal

-- no more than there are to be, and nothing comes through them
abbrev pub invariant-doors : goal.invariant-doors
invariant-doors g l = record {
  few : vec_len l.doors ≤ l.count;
  empty : l.doors.items ≡ replicate (vec_len l.doors) (new_steady_door []);
}

-- the doors that are still to come
abbrev pub decreases-doors : goal.decreases-doors
decreases-doors g l = l.count - vec_len l.doors
