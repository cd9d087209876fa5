-- What the drill tells is put, or the town is refused on its line.
use Rattle.std.proofs.Common.{ℕ, List, subst, sym}
use Rattle.road_base.specs.declared.program_status.Status.{Status}
use Rattle.road_io.specs.Putting.{Closes}
use Rattle.road_run.specs.TownEnding.{EndsDrill, EndsPut}
use Rattle.road_run.proofs.EndLaws.{drill_told}
use Rattle.road_run.proofs.towns.drill.Goals as goal

pub returns-in-Ok : goal.returns-in-Ok
returns-in-Ok g c =
    let before = g.O.Sink.view c.args.output.now in
    let after = g.O.Sink.view c.put_text.new.output in
    drill_told c.put_text.result c.args.n _ before after c.in-Ok.ensures.drilled (subst (λ (t : List ℕ). EndsPut c.put_text.result t before after) c.as_str.ensures.value c.put_text.ensures)

pub returns-in-Err-Refused : goal.returns-in-Err-Refused
returns-in-Err-Refused g c =
    let before = g.O.Sink.view c.args.output.now in
    let after = g.O.Sink.view c.end_refused.new.output in
    subst (λ (code : Status). EndsDrill code c.args.n before after) (sym c.end_refused.ensures.status) (
      c.in-Err-Refused.line,
      rw c.in-Err-Refused.field-0-is at c.in-Err-Refused.ensures.fault,
      subst (λ (l : List ℕ). Closes before after l) c.in-Err-Refused.line-is c.end_refused.ensures.put,
    )
