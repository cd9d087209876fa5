use Rattle.std.proofs.Common.{◌≡◌, ℤ, take}
use Rattle.std.specs.Prelude.{count_by}
use Rattle.std.specs.HashMap.{get}
use Rattle.metric_make.specs.LastRows.{pair_eq, row_in, waiting}
use Rattle.metric_make.specs.TrafficRows.{last_where}
use Rattle.metric_make.proofs.speed_rows.last_speeds.Given as goal

-- the rows so far are in the map
abbrev pub invariant-loop-i : goal.invariant-loop-i
invariant-loop-i l = record {
  last : (q : ℤ × ℤ) → row_in l.rows (get pair_eq l.entries q) ≡ last_where (λ row. pair_eq (row.from, row.to) q) (take l.i l.rows);
  counted : (q : ℤ × ℤ) → waiting (get pair_eq l.entries q) ≡ count_by (λ row. pair_eq (row.from, row.to) q) (take l.i l.rows);
}
