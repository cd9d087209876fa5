use Rattle.std.proofs.Common.{◌-◌, All, vec_len}
use Rattle.road_io.specs.DoorOpening.{IsNewDoor}
use Rattle.memory_doors.proofs.mem_doors.top_up.Given as goal

abbrev pub invariant-doors : goal.invariant-doors
invariant-doors g l = All IsNewDoor l.doors.items

-- the doors that are still to come
abbrev pub decreases-doors : goal.decreases-doors
decreases-doors g l = l.count - vec_len l.doors
