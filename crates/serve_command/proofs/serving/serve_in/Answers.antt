-- The doors were opened for the words, and then served or given back.
use Rattle.std.proofs.Common.{◌∙◌, [], ◌∷◌, length, sym}
use Rattle.std.proofs.lemmas.List.{length-map}
use Rattle.std.specs.Arc.{arc_value}
use Rattle.command_words.specs.Commands.{serving_seen}
use Rattle.metric_publish.specs.History.{entry}
use Rattle.serve_command.specs.ServeEnding.{asked_in}
use Rattle.serve_command.proofs.Rounds.{started_opened}
use Rattle.serve_command.proofs.serving.serve_in.Goals as goal

pub returns-in-Ok : goal.returns-in-Ok
returns-in-Ok g c =
    let gives = c.in-Ok.ensures.gives in
    started_opened c.serve_opened.result (asked_in (serving_seen c.args.what.now)) c.args.start.now.roads (entry 0 (arc_value c.args.start.now.metric) ∷ []) (g.O.Sink.view c.args.output.now) (g.O.Sink.view c.serve_opened.new.output)
    (g.N.Doors.view c.args.doors.now) (g.N.Doors.view c.open.new.self) (g.N.Doors.view c.serve_opened.new.doors) (length c.in-Ok.opened.queries.items)
    (sym (length-map c.in-Ok.opened.queries.items g.N.Door.Door.view) ∙ gives.0) gives.3 c.serve_opened.ensures
