-- The files were read, or one of them was not.
use Rattle.command_words.specs.Commands.{serving_seen}
use Rattle.serve_command.specs.Start.{start_bytes}
use Rattle.serve_command.proofs.WholeLaws.{serve_read}
use Rattle.serve_command.proofs.serving.serve.Goals as goal

pub returns-in-Ok-clause-ends : goal.returns-in-Ok-clause-ends
returns-in-Ok-clause-ends g c = λ input.
    let read = c.in-Ok.read in
    serve_read c.serve_over.result (serving_seen c.args.what.now) (start_bytes read.map.items read.settings.items read.speeds.items read.turns.items) (g.F.Files.view c.args.files.now) (g.F.Files.view c.read_start.new.files) input
    (g.O.Sink.view c.args.output.now) (g.O.Sink.view c.serve_over.new.output) (g.N.Doors.view c.args.doors.now) (g.N.Doors.view c.serve_over.new.doors) c.in-Ok.ensures.read c.serve_over.ensures
