use Rattle.std.proofs.Common.{◌≡◌, ◌++◌}
use Rattle.std.specs.List.{flat_map, range_with_len}
use Rattle.town_drill.specs.Asked.{row_at}
use Rattle.town_drill.proofs.metrics.push_rows_along.Given as goal

abbrev pub invariant-loop-column : goal.invariant-loop-column
invariant-loop-column l = l.rows.items ≡ l.initial.rows.items ++ flat_map (λ x. row_at l.n l.metric x l.row) (range_with_len 0 l.column)
