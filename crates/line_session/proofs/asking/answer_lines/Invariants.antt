use Rattle.std.proofs.Common.{◌≡◌, ◌+◌, ◌-◌, ◌^◌, ◌≤◌}
use Rattle.line_session.specs.Growing.{sides}
use Rattle.line_session.specs.Leading.{TakenSoFar}
use Rattle.line_session.proofs.asking.answer_lines.Given as goal

-- so many bytes were taken, and the input did not fail
abbrev pub invariant-loop-taken : goal.invariant-loop-taken
invariant-loop-taken g l = record {
  so_far : TakenSoFar l.initial.published l.published (g.I.Source.view l.initial.input) (g.I.Source.view l.input) l.buffer.held.items (sides (g.F.Files.view l.initial.files) (g.O.Sink.view l.initial.output)) (sides (g.F.Files.view l.files) (g.O.Sink.view l.output)) l.taken;
  below : l.taken ≤ 2 ^ 63 + 8192;
  steady : (g.I.Source.view l.input).faults ≡ (g.I.Source.view l.initial.input).faults;
}

-- each piece takes a byte at the least
abbrev pub decreases-loop-taken : goal.decreases-loop-taken
decreases-loop-taken g l = (2 ^ 63 + 8192) - l.taken
