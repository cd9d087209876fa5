-- What a door in memory tells.
use Rattle.std.specs.Prelude.{false, Some, map, vec_len}
use Rattle.road_io.specs.declared.memory.doors.MemDoor.{MemDoor}
use Rattle.road_io.specs.Doorway.{DoorView}
use Rattle.road_io.specs.MemoryStates.{conn_state}

-- all of it: the transcripts of the connections that came back, and how many wait
abbrev pub door_view : MemDoor → DoorView
door_view door = record {
  transcripts = Some (map conn_state door.done.items);
  waiting = Some (vec_len door.waiting);
  given = door.given;
  finished = vec_len door.done;
  closed = false;
  ended = door.ended;
  faults = door.faults;
}
