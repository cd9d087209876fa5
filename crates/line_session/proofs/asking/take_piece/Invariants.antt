use Rattle.std.proofs.Common.{take}
use Rattle.line_session.specs.Growing.{sides}
use Rattle.line_session.specs.Leading.{Goes}
use Rattle.line_session.proofs.asking.take_piece.Given as goal

-- the bytes so far were taken
abbrev pub invariant-loop-byte : goal.invariant-loop-byte
invariant-loop-byte g l =
    Goes l.initial.published l.published l.initial.buffer.held.items (take l.byte-index l.piece) l.buffer.held.items (sides (g.F.Files.view l.initial.files) (g.O.Sink.view l.initial.output)) (sides (g.F.Files.view l.files) (g.O.Sink.view l.output))
