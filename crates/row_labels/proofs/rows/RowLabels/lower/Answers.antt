-- Past the last cost there is nothing to go along.
use Rattle.std.proofs.Common.{◌≤◌, arith}
use Rattle.row_labels.proofs.Lowering.{on_ok, LowersRow-all}
use Rattle.row_labels.proofs.rows.RowLabels.lower.Goals as goal

pub returns : goal.returns
returns g c =
    let least : c.min-count.result ≤ c.args.count = omega (arith, c.min-count.ensures) in
    on_ok c.lower.result c.lower.ensures (LowersRow-all c.args.costs.now c.min-count.result c.args.count least (λ j lt long. omega (arith, lt, long, c.len.ensures, c.min-count.ensures)))
