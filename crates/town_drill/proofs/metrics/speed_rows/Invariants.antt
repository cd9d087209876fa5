use Rattle.std.proofs.Common.{◌≡◌, [], ◌++◌}
use Rattle.std.specs.List.{flat_map, range_with_len}
use Rattle.town_drill.specs.Asked.{rows_along}
use Rattle.town_drill.proofs.metrics.speed_rows.Given as goal

abbrev pub invariant-loop-row : goal.invariant-loop-row
invariant-loop-row l = l.rows.items ≡ [] ++ flat_map (λ y. rows_along l.n l.metric y) (range_with_len 0 l.row)
