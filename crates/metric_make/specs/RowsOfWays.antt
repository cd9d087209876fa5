-- For private functions: the rows of a speeds file by the vertices that they are for.
use Rattle.std.specs.Prelude.{◌≡◌, ℕ, ℤ, ◌+◌, ◌*◌, ◌/◌, ◌<◌, int_lt, not, List, take, Option, Some, None, option_map, option_and_then, count_by, length, if◌then◌else◌}
use Rattle.std.specs.HashMap.{get}
use Rattle.std.specs.List.{slice_get}
use Rattle.road_segments.specs.Vertex.{Vertex}
use Rattle.metric_make.specs.LastRows.{AreSpeedsTold, pair_eq}
use Rattle.metric_make.specs.TrafficRows.{is_way, speed_for}
use Rattle.metric_make.specs.declared.rows_of_ways.Pairs.{Pairs}
use Rattle.metric_make.specs.declared.rows_of_ways.RowsOfWays.{RowsOfWays}
use Rattle.metric_make.specs.declared.under_speeds.SpeedTable.{SpeedTable}
use Rattle.metric_make.specs.declared.under_speeds.SpeedTable.TheVariants.{OfRows, OfWays}
use Rattle.traffic_files.specs.declared.rows.SpeedRow.{SpeedRow}

-- two nodes, the lesser first
abbrev pub in_order : ℤ × ℤ → ℤ × ℤ
in_order q = if int_lt q.1 q.0 then (q.1, q.0) else q

-- the place of what goes from one node to another, of two for a segment between them
abbrev pub place : ℕ → ℤ × ℤ → ℕ
place segment q = if int_lt q.1 q.0 then 2 * segment + 1 else 2 * segment

-- the segment that was first, or this one where none was
abbrev pub first_or : ℕ → Option ℕ → ℕ
first_or segment (Some first) = first
first_or segment None = segment

-- the same where a segment is between these nodes, by the first such one
abbrev pub place_of : Pairs → ℤ × ℤ → Option ℕ
place_of pairs q = option_map (λ first. place first q) (get pair_eq pairs.entries (in_order q))

-- what stands at a place
abbrev pub at_place : List (Option (Option ℕ)) → ℕ → Option (Option ℕ)
at_place last i = option_and_then (λ o. o) (slice_get last i)

-- what is known of the way from one node to another: nothing where there is none, else the number of its last row, if it has one
abbrev pub known : Pairs → List (Option (Option ℕ)) → ℤ × ℤ → Option (Option ℕ)
known pairs last q = option_and_then (at_place last) (place_of pairs q)

-- the row of a number, where there is a number
abbrev pub row_of : List SpeedRow → Option ℕ → Option SpeedRow
row_of rows number = option_and_then (slice_get rows) number

-- The first n segments by their nodes: for each vertex of theirs the first segment between its nodes is found, and each
-- that is found is between these nodes.
pub record ArePaired (vs : List Vertex) (n : ℕ) (pairs : Pairs) : Type 0 where
  pub many : length pairs.firsts.items ≡ n
  pub first : (v : ℕ) (x : Vertex) → v < 2 * n → slice_get vs v ≡ Some x → get pair_eq pairs.entries (in_order (x.tail, x.head)) ≡ slice_get pairs.firsts.items (v / 2)
  pub between : (q : ℤ × ℤ) (first : ℕ) → get pair_eq pairs.entries q ≡ Some first → (first < n) × (x : Vertex) × (slice_get vs (2 * first) ≡ Some x) × (in_order (x.tail, x.head) ≡ q)

-- What is known before any row: where permitted vertices go.
pub record AreMarked (vs : List Vertex) (pairs : Pairs) (last : List (Option (Option ℕ))) : Type 0 where
  pub many : length last ≡ 2 * length pairs.firsts.items
  pub marks : (q : ℤ × ℤ) → known pairs last q ≡ (if is_way vs q.0 q.1 then Some None else None)

-- What is found of the first n rows by the vertices that they are for: for the two nodes of each permitted vertex the last
-- row, if there is one, and for no other nodes; and how many of these rows are for none.
pub record AreWaysTold (vs : List Vertex) (rows : List SpeedRow) (n : ℕ) (found : RowsOfWays) : Type 0 where
  pub whole : length vs ≡ 2 * length found.pairs.firsts.items
  pub paired : ArePaired vs (length found.pairs.firsts.items) found.pairs
  pub many : length found.last.items ≡ 2 * length found.pairs.firsts.items
  pub last : (q : ℤ × ℤ) → option_map (row_of rows) (known found.pairs found.last.items q) ≡ (if is_way vs q.0 q.1 then Some (speed_for (take n rows) q.0 q.1) else None)
  pub total : found.unmatched ≡ count_by (λ row. not (is_way vs row.from row.to)) (take n rows)

-- What a table tells of rows once the first v vertices have asked for theirs: one of rows waits to be asked, one of ways
-- has matched all at first.
abbrev pub AreRowsTold : List Vertex → List SpeedRow → ℕ → SpeedTable → Type 0
AreRowsTold vs rows v (OfRows last) = AreSpeedsTold rows (λ q. is_way (take v vs) q.0 q.1) last
AreRowsTold vs rows v (OfWays found) = AreWaysTold vs rows (length rows) found
