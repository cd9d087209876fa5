-- The line stands, and no fault was counted.
use Rattle.serve_command.proofs.LineLaws.{ready_of}
use Rattle.serve_command.proofs.serving.put_ready.Goals as goal

pub returns-clause-ready : goal.returns-clause-ready
returns-clause-ready g c = ready_of c.put_all.result (g.O.Sink.view c.args.output.now) (g.O.Sink.view c.put_all.new.sink) c.put_all.ensures.all c.put_all.ensures.cause.kept
