-- The counts are those of what was loaded; a refusal is the one of loading.
use Rattle.std.proofs.Common.{ℕ, List, subst}
use Rattle.road_io.specs.Putting.{Closes}
use Rattle.map_loading.specs.Counting.{check_text}
use Rattle.map_loading.specs.declared.counting.Counts.{Counts}
use Rattle.road_run.specs.InnerEnds.{count_refused, counted}
use Rattle.road_run.specs.TownEnding.{EndsPut}
use Rattle.road_run.proofs.running.check_over.Goals as goal

pub returns-in-Ok : goal.returns-in-Ok
returns-in-Ok g c =
    let h = c.in-Ok.ensures.counts in
    counted h.0 c.in-Ok.loaded.network h.1 c.in-Ok.ensures.loaded
    (subst (λ (counts : Counts). EndsPut c.put_counts.result (check_text counts c.in-Ok.loaded.network) (g.O.Sink.view c.args.output.now) (g.O.Sink.view c.put_counts.new.output)) h.2 c.put_counts.ensures)

pub returns-in-Err-Refused : goal.returns-in-Err-Refused
returns-in-Err-Refused g c =
    count_refused c.in-Err-Refused.line (rw c.in-Err-Refused.field-0-is at c.in-Err-Refused.ensures.fault) c.end_refused.ensures.status
    (subst (λ (l : List ℕ). Closes (g.O.Sink.view c.args.output.now) (g.O.Sink.view c.end_refused.new.output) l) c.in-Err-Refused.line-is c.end_refused.ensures.put)
