-- A read that a signal interrupts takes nothing.
use Rattle.std.specs.Io.KnownBytes.{Keeps}
use Rattle.road_real.proofs.retrying.read_retrying.Given as goal

abbrev pub invariant-loop : goal.invariant-loop
invariant-loop g l = Keeps (g.R.Read.remaining l.initial.reader) (g.R.Read.remaining l.reader)
