use Rattle.town_drill.specs.Asked.{row_at}
use Rattle.town_drill.proofs.Ranges.{piece-put}
use Rattle.town_drill.proofs.metrics.push_rows_along.Goals as goal

pub loop-column-preserved : goal.loop-column-preserved
loop-column-preserved c = piece-put (λ x. row_at c.args.n c.args.metric x c.args.row) _ _ _ c.loop-column.column c.loop-column.invariant c.in_ok-push_row.ensures
