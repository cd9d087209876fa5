use Rattle.std.proofs.Common.{◌+◌, arith}
use Rattle.town_text.specs.Town.{row_line}
use Rattle.town_text.proofs.Ranges.{piece-put}
use Rattle.town_text.proofs.streets.push_rows.Goals as goal

pub loop-row-preserved : goal.loop-row-preserved
loop-row-preserved c =
    piece-put (λ y. row_line c.args.n y) _ _ _ 0 c.loop-row.row c.loop-row.row (c.loop-row.row + 1) c.loop-row.invariant c.in_ok-push_row.ensures (omega arith) (omega arith)
