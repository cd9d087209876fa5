-- A line behind the last lines, or a proper front of them.
use Rattle.serve_command.specs.ServeEnding.{last_lines}
use Rattle.serve_command.proofs.LineLaws.{front_short, lines_short}
use Rattle.serve_command.proofs.ending.end_served.Goals as goal

pub returns-in-Ok : goal.returns-in-Ok
returns-in-Ok g c =
    lines_short c.args.told.short c.args.told.rose (last_lines c.args.told.connections c.args.told.metric) c.end_exhausted.result (g.O.Sink.view c.args.output.now) (g.O.Sink.view c.put_numbers.new.output) (g.O.Sink.view c.end_exhausted.new.output)
    c.end_exhausted.ensures.status c.if-told.true c.in-Ok.ensures.all c.in-Ok.ensures.cause.kept c.end_exhausted.ensures.put

pub returns-in-Err : goal.returns-in-Err
returns-in-Err g c = (
  c.if-told-3.true,
  front_short (g.O.Sink.view c.args.output.now) (g.O.Sink.view c.put_numbers.new.output) (last_lines c.args.told.connections c.args.told.metric) c.in-Err.ensures.cause.failed c.in-Err.ensures.part,
)
