use Rattle.std.proofs.Common.{◌≡◌, ℤ, take}
use Rattle.std.specs.Prelude.{count_by}
use Rattle.std.specs.HashMap.{get}
use Rattle.metric_make.specs.LastRows.{triple_eq, row_in, waiting}
use Rattle.metric_make.specs.TrafficRows.{last_where}
use Rattle.metric_make.proofs.turn_rows.last_turns.Given as goal

-- the rows so far are in the map
abbrev pub invariant-loop-i : goal.invariant-loop-i
invariant-loop-i l = record {
  last : (q : ℤ × ℤ × ℤ) → row_in l.rows (get triple_eq l.entries q) ≡ last_where (λ row. triple_eq (row.from, row.via, row.to) q) (take l.i l.rows);
  counted : (q : ℤ × ℤ × ℤ) → waiting (get triple_eq l.entries q) ≡ count_by (λ row. triple_eq (row.from, row.via, row.to) q) (take l.i l.rows);
}
