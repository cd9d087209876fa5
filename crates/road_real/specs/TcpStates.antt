-- What connections and doors over TCP tell: their counts, and no bytes.
use Rattle.std.specs.Prelude.{None}
use Rattle.road_io.specs.Doorway.{DoorView}
use Rattle.road_io.specs.Sides.{no_opening}
use Rattle.road_io.specs.Views.{ConnState}
use Rattle.road_real.specs.declared.tcp_conns.TcpConn.{TcpConn}
use Rattle.road_real.specs.declared.tcp_doors.TcpDoor.{TcpDoor}

-- a connection: how many bytes were taken, and how often each half failed
abbrev pub conn_state : TcpConn → ConnState
conn_state conn = record {
  source = record { left = None; taken = conn.taken; faults = conn.source_faults };
  sink = record { written = None; faults = conn.sink_faults };
  opening = no_opening;
}

-- a door: how many connections it gave and how many were finished, whether it has seen that it was closed
-- and whether it has ended, and how often it failed
abbrev pub door_view : TcpDoor → DoorView
door_view door = record {
  transcripts = None;
  waiting = None;
  given = door.given;
  finished = door.finished;
  closed = door.closed;
  ended = door.ended;
  faults = door.faults;
}
