-- What serving left of the doors, and what was found of them, decides how it ends.
use Rattle.std.proofs.Common.{◌∙◌, [], ◌∷◌, length, map, refl}
use Rattle.std.proofs.lemmas.List.{length-map}
use Rattle.std.specs.Arc.{arc_value}
use Rattle.metric_publish.specs.History.{entry}
use Rattle.road_io.specs.DoorOpening.{door_set}
use Rattle.serve_command.specs.InnerEnds.{unready}
use Rattle.serve_command.proofs.Rounds.{all_begin, opened_served}
use Rattle.serve_command.proofs.serving.serve_opened.Goals as goal

pub returns-in-Ok : goal.returns-in-Ok
returns-in-Ok g c =
    let view = g.N.Door.Door.view in
    let doors = c.serve-served.result.doors in
    let first = entry 0 (arc_value c.args.start.now.metric) ∷ [] in
    let told = c.take_back-told.ensures in
    opened_served c.end_served.result (length c.args.opened.queries.items) c.args.start.now.roads first c.args.desk.now.writer.desk.shown.value.front.token.log c.serve-served.new.desk.writer.desk.shown.value.front.token.log
    (g.O.Sink.view c.args.output.now) (g.O.Sink.view c.put_ready.new.output) (g.O.Sink.view c.end_served.new.output) (g.N.Doors.view c.args.doors.now) (g.N.Doors.view c.take_back-told.new.doors)
    (door_set (map view doors.queries.items) (view doors.control)) c.take_back-told.result.connections c.take_back-told.result.metric c.serve-served.result.short c.take_back-told.result.short c.take_back-told.result.rose
    (length-map doors.queries.items view ∙ c.serve-served.ensures.doors) told.back c.in-Ok.ensures.ready c.requires.desk_begins
    c.serve-served.ensures.served (c.serve-served.ensures.apart first (all_begin c.args.seats.now.items (λ s. s.seen.token.log) first c.requires.seats_begin)) told.short told.rose (told.numbers.0 ∙ c.serve-served.ensures.connections) (told.numbers.1 ∙ c.serve-served.ensures.metric) c.end_served.ensures

pub returns-in-Err : goal.returns-in-Err
returns-in-Err g c =
    let view = g.N.Door.Door.view in
    unready (door_set (map view c.args.opened.queries.items) (view c.args.opened.control)) (length-map c.args.opened.queries.items view) c.requires.new c.requires.control_new c.hand_back.ensures refl c.in-Err.ensures.rose c.in-Err.ensures.part
