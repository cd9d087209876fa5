-- What a connection tells that never fails: its input, and no output.
use Rattle.std.specs.Prelude.{Some, None}
use Rattle.road_io.specs.Views.{ConnState}
use Rattle.memory_doors.specs.declared.steady_conns.SteadyConn.{SteadyConn}

abbrev pub steady_state : SteadyConn → ConnState
steady_state conn = record {
  source = record { left = Some conn.source.left; taken = conn.source.taken; faults = 0 };
  sink = record { written = None; faults = 0 };
  opening = record { input = Some conn.input.value.items; output = None; source_faults = 0; sink_faults = 0 };
}
