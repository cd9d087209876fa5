-- The other side of an object that is a source or a sink alone, or both, as a connection is. By it a call
-- of the one side says that it left the other side and the opening as they were.
use Rattle.std.specs.Prelude.{None}
use Rattle.road_io.specs.Views.{InputView, OutputView, Opening, ConnState}

pub record SourceSide : Type 0 where
  pub source : InputView
  pub opening : Opening

pub record SinkSide : Type 0 where
  pub sink : OutputView
  pub opening : Opening

-- a connection as a source, and as a sink
abbrev pub source_side : ConnState → SourceSide
source_side conn = record { source = conn.source; opening = conn.opening }

abbrev pub sink_side : ConnState → SinkSide
sink_side conn = record { sink = conn.sink; opening = conn.opening }

-- the opening, and the other side, of what is no connection
abbrev pub no_opening : Opening
no_opening = record { input = None; output = None; source_faults = 0; sink_faults = 0 }

abbrev pub no_source_side : SourceSide
no_source_side = record { source = record { left = None; taken = 0; faults = 0 }; opening = no_opening }

abbrev pub no_sink_side : SinkSide
no_sink_side = record { sink = record { written = None; faults = 0 }; opening = no_opening }
