-- For private functions: the rows of a file by the nodes that they are for.
use Rattle.std.specs.Prelude.{◌≡◌, ℕ, ℤ, ◌+◌, Bool, not, ◌&&◌, List, Option, Some, None, option_and_then, count_by, if◌then◌else◌}
use Rattle.std.specs.HashMap.{HashMap, get}
use Rattle.std.specs.List.{slice_get}
use Rattle.std.specs.Ordering.{int_eq}
use Rattle.std.specs.declared.hash.FoldHasher.{FoldHasher}
use Rattle.std.specs.declared.hash.BuildHasherDefault.{BuildHasherDefault}
use Rattle.metric_make.specs.TrafficRows.{last_where}
use Rattle.metric_make.specs.declared.last_rows.LastRow.{LastRow}
use Rattle.metric_make.specs.declared.speed_rows.LastSpeeds.{LastSpeeds}
use Rattle.metric_make.specs.declared.turn_rows.LastTurns.{LastTurns}
use Rattle.traffic_files.specs.declared.rows.SpeedRow.{SpeedRow}
use Rattle.traffic_files.specs.declared.rows.TurnRow.{TurnRow}

abbrev pub pair_eq : ℤ × ℤ → ℤ × ℤ → Bool
pair_eq a b = int_eq a.0 b.0 && int_eq a.1 b.1

abbrev pub triple_eq : ℤ × ℤ × ℤ → ℤ × ℤ × ℤ → Bool
triple_eq a b = (int_eq a.0 b.0 && int_eq a.1 b.1) && int_eq a.2 b.2

abbrev pub Entries : Type 0 → Type 0
Entries K = HashMap K LastRow (BuildHasherDefault FoldHasher)

-- the row of an entry
abbrev pub row_in : {A : Type 0} → List A → Option LastRow → Option A
row_in rows entry = option_and_then (λ last. slice_get rows last.row) entry

-- how many rows an entry has that wait to be matched
abbrev pub waiting : Option LastRow → ℕ
waiting None = 0
waiting (Some entry) = entry.unmatched

-- the entry after one row more
abbrev pub added : ℕ → Option LastRow → LastRow
added row before = record { row = row; unmatched = waiting before + 1 }

-- What entries and a number tell of rows, each for the nodes `at` it, of which those are matched that the test picks: for
-- each nodes the last row, and how many rows for them wait; and how many rows are not matched.
pub record AreTold {A K : Type 0} (eq : K → K → Bool) (at : A → K) (rows : List A) (matched : K → Bool) (entries : Entries K) (unmatched : ℕ) : Type 0 where
  pub last : (q : K) → row_in rows (get eq entries q) ≡ last_where (λ row. eq (at row) q) rows
  pub counted : (q : K) → waiting (get eq entries q) ≡ (if matched q then 0 else count_by (λ row. eq (at row) q) rows)
  pub total : unmatched ≡ count_by (λ row. not (matched (at row))) rows

abbrev pub AreSpeedsTold : List SpeedRow → (ℤ × ℤ → Bool) → LastSpeeds → Type 0
AreSpeedsTold rows matched last = AreTold pair_eq (λ row. (row.from, row.to)) rows matched last.entries last.unmatched

abbrev pub AreTurnsTold : List TurnRow → (ℤ × ℤ × ℤ → Bool) → LastTurns → Type 0
AreTurnsTold rows matched last = AreTold triple_eq (λ row. (row.from, row.via, row.to)) rows matched last.entries last.unmatched
