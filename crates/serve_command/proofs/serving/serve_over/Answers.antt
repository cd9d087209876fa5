-- A refusal is the one of the start; else it ends as serving from the start on does.
use Rattle.std.proofs.Common.{ℕ, List, [], ◌∷◌, refl, subst}
use Rattle.std.specs.Arc.{arc_value}
use Rattle.command_words.specs.Commands.{serving_seen}
use Rattle.metric_publish.specs.History.{entry}
use Rattle.road_io.specs.Putting.{Closes}
use Rattle.serve_command.specs.InnerEnds.{EndsOver, begun, refused}
use Rattle.serve_command.specs.ServeEnding.{asked_in}
use Rattle.serve_command.proofs.StartLaws.{bytes_same}
use Rattle.serve_command.proofs.serving.serve_over.Goals as goal

pub returns-in-Ok : goal.returns-in-Ok
returns-in-Ok g c =
    let read = c.args.read in
    bytes_same (λ bytes. EndsOver c.serve_start.result (asked_in (serving_seen c.args.what.now)) bytes (g.O.Sink.view c.args.output.now) (g.O.Sink.view c.serve_start.new.output) (g.N.Doors.view c.args.doors.now) (g.N.Doors.view c.serve_start.new.doors))
    read.map.items c.deref.result.now c.deref-2.result.now c.deref-3.result.now read.settings.items read.speeds.items read.turns.items c.deref.ensures.value c.deref-2.ensures.value c.deref-3.ensures.value
    (begun c.in-Ok.start.roads (entry 0 (arc_value c.in-Ok.start.metric) ∷ []) c.in-Ok.ensures.opening c.serve_start.ensures)

pub returns-in-Err-Refused : goal.returns-in-Err-Refused
returns-in-Err-Refused g c =
    let read = c.args.read in
    bytes_same (λ bytes. EndsOver c.end_refused.result (asked_in (serving_seen c.args.what.now)) bytes (g.O.Sink.view c.args.output.now) (g.O.Sink.view c.end_refused.new.output) (g.N.Doors.view c.args.doors.now) (g.N.Doors.view c.args.doors.now))
    read.map.items c.deref.result.now c.deref-2.result.now c.deref-3.result.now read.settings.items read.speeds.items read.turns.items c.deref.ensures.value c.deref-2.ensures.value c.deref-3.ensures.value
    (refused c.in-Err-Refused.line (rw c.in-Err-Refused.field-0-is at c.in-Err-Refused.ensures.fault) c.end_refused.ensures.status refl
    (subst (λ (l : List ℕ). Closes (g.O.Sink.view c.args.output.now) (g.O.Sink.view c.end_refused.new.output) l) c.in-Err-Refused.line-is c.end_refused.ensures.put))
