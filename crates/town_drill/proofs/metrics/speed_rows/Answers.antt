use Rattle.std.proofs.Common.{[]}
use Rattle.town_drill.specs.Asked.{rows_along}
use Rattle.town_drill.proofs.Ranges.{piece-put}
use Rattle.town_drill.proofs.metrics.speed_rows.Goals as goal

pub loop-row-preserved : goal.loop-row-preserved
loop-row-preserved c = piece-put (λ y. rows_along c.args.n c.args.metric y) [] _ _ c.loop-row.row c.loop-row.invariant c.in_ok-push_rows_along.ensures
