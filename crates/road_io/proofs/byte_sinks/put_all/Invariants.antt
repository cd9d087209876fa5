use Rattle.std.proofs.Common.{◌≡◌, length}
use Rattle.road_io.proofs.PutLaws.{PutSoFar}
use Rattle.road_io.proofs.byte_sinks.put_all.Given as goal

-- so much was put, with no fault so far
abbrev pub invariant-loop-rest : goal.invariant-loop-rest
invariant-loop-rest g l = record {
  put : PutSoFar (g.O.Sink.view l.initial.sink).written (g.O.Sink.view l.sink).written l.bytes l.rest;
  steady : (g.O.Sink.view l.sink).faults ≡ (g.O.Sink.view l.initial.sink).faults;
  beside : g.O.Sink.beside l.sink ≡ g.O.Sink.beside l.initial.sink;
}

-- the bytes that are left to put
abbrev pub decreases-loop-rest : goal.decreases-loop-rest
decreases-loop-rest g l = length l.rest
