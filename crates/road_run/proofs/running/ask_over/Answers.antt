-- How answering ends is how the run ends; a refusal is the one of loading.
use Rattle.std.proofs.Common.{ℕ, List, refl, subst}
use Rattle.road_io.specs.Outside.{outside}
use Rattle.road_io.specs.Putting.{Closes}
use Rattle.line_session.specs.Publication.{Publication}
use Rattle.road_run.specs.InnerEnds.{EndsFrom, answered, refused}
use Rattle.road_run.proofs.running.ask_over.Goals as goal

pub returns-in-Ok-opening : goal.returns-in-Ok-opening
returns-in-Ok-opening g c =
    answered c.in-Ok.loaded.network c.in-Ok.ensures.loaded (subst (λ (p : Publication). EndsFrom c.answer.result p
    (outside (g.F.Files.view c.args.files.now) (g.I.Source.view c.args.input.now) (g.O.Sink.view c.args.output.now))
    (outside (g.F.Files.view c.answer.new.files) (g.I.Source.view c.answer.new.input) (g.O.Sink.view c.answer.new.output))) c.in-Ok-opening.ensures c.answer.ensures)

pub returns-in-Err-Refused : goal.returns-in-Err-Refused
returns-in-Err-Refused g c =
    refused c.in-Err-Refused.line (rw c.in-Err-Refused.field-0-is at c.in-Err-Refused.ensures.fault) c.end_refused.ensures.status refl refl
    (subst (λ (l : List ℕ). Closes (g.O.Sink.view c.args.output.now) (g.O.Sink.view c.end_refused.new.output) l) c.in-Err-Refused.line-is c.end_refused.ensures.put)
