use Rattle.std.proofs.Common.{◌≡◌, All, length, map}
use Rattle.road_io.specs.DoorOpening.{IsNewDoor}
use Rattle.road_real.specs.TcpStates.{door_view}
use Rattle.road_real.proofs.tcp_opening.doors_at.Given as goal

-- so many new doors so far
abbrev pub invariant-loop : goal.invariant-loop
invariant-loop l = (length l.doors.items ≡ l.counter) × All IsNewDoor (map door_view l.doors.items)
