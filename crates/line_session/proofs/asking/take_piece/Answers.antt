use Rattle.std.proofs.Common.{◌<◌, length, arith}
use Rattle.line_session.specs.Growing.{sides}
use Rattle.line_session.proofs.LeadLaws.{goes_byte, goes_halted}
use Rattle.line_session.proofs.asking.take_piece.Goals as goal

-- the line that this byte ended was not answered whole
pub returns-in-Err-clause-stopped : goal.returns-in-Err-clause-stopped
returns-in-Err-clause-stopped g c =
    let bound : c.loop-byte.byte-index < length c.args.piece.now = omega arith in
    goes_halted c.in-Err.why c.args.published.now c.loop-byte.published c.take_byte.new.published c.args.buffer.now.held.items c.loop-byte.buffer.held.items c.args.piece.now c.loop-byte.byte-index
    (sides (g.F.Files.view c.args.files.now) (g.O.Sink.view c.args.output.now)) (sides (g.F.Files.view c.loop-byte.files) (g.O.Sink.view c.loop-byte.output)) (sides (g.F.Files.view c.take_byte.new.files) (g.O.Sink.view c.take_byte.new.output))
    bound c.loop-byte.invariant c.in-Err.ensures.stopped

pub loop-byte-preserved : goal.loop-byte-preserved
loop-byte-preserved g c =
    let bound : c.loop-byte.byte-index < length c.args.piece.now = omega arith in
    goes_byte c.args.published.now c.loop-byte.published c.take_byte.new.published c.args.buffer.now.held.items c.loop-byte.buffer.held.items c.take_byte.new.buffer.held.items c.args.piece.now c.loop-byte.byte-index
    (sides (g.F.Files.view c.args.files.now) (g.O.Sink.view c.args.output.now)) (sides (g.F.Files.view c.loop-byte.files) (g.O.Sink.view c.loop-byte.output)) (sides (g.F.Files.view c.take_byte.new.files) (g.O.Sink.view c.take_byte.new.output))
    bound c.loop-byte.invariant c.in-Ok.ensures.all
