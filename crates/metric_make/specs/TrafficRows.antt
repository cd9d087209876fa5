-- Which row of a traffic file decides, and what a row is for. Rows are as OSRM's traffic files have them; that the
-- last of several rows decides is this project's rule.
use Rattle.std.specs.Prelude.{ℕ, ℤ, ◌+◌, Bool, false, not, ◌&&◌, List, reverse, find, count_by, Option, Some}
use Rattle.std.specs.List.{list_any, slice_get}
use Rattle.std.specs.Ordering.{int_eq}
use Rattle.edge_graph.specs.NetworkView.{NetworkView, vertices_of}
use Rattle.road_segments.specs.Vertex.{Vertex}
use Rattle.traffic_files.specs.declared.rows.SpeedRow.{SpeedRow}
use Rattle.traffic_files.specs.declared.rows.TurnRow.{TurnRow}

-- the last element that passes the test
abbrev pub last_where : {A : Type 0} → (A → Bool) → List A → Option A
last_where test xs = find test (reverse xs)

-- the row that decides the speed and the rate from one node to the next: the last one for these two
abbrev pub speed_for : List SpeedRow → ℤ → ℤ → Option SpeedRow
speed_for rows tail head = last_where (λ row. int_eq row.from tail && int_eq row.to head) rows

-- the row that decides the penalty and the weight of going over three nodes in turn: the last one for these three
abbrev pub turn_for : List TurnRow → ℤ → ℤ → ℤ → Option TurnRow
turn_for rows from via to = last_where (λ row. (int_eq row.from from && int_eq row.via via) && int_eq row.to to) rows

-- some permitted vertex goes from one node to the next
abbrev pub is_way : List Vertex → ℤ → ℤ → Bool
is_way vs tail head = list_any (λ v. v.permitted && (int_eq v.tail tail && int_eq v.head head)) vs

-- a turn from d to e goes over these nodes
abbrev pub goes_over : ℤ → ℤ → ℤ → Option Vertex → Option Vertex → Bool
goes_over from via to (Some d) (Some e) = (int_eq d.tail from && int_eq d.head via) && int_eq e.head to
goes_over from via to _ _ = false

-- some turn goes over these nodes
abbrev pub is_turn_over : List Vertex → List (ℕ × ℕ) → ℤ → ℤ → ℤ → Bool
is_turn_over vs turns from via to = list_any (λ turn. goes_over from via to (slice_get vs turn.0) (slice_get vs turn.1)) turns

-- how many rows match no permitted vertex, or no turn
abbrev pub unmatched_of : NetworkView → List SpeedRow → List TurnRow → ℕ
unmatched_of network speeds turns =
    count_by (λ row. not (is_way (vertices_of network) row.from row.to)) speeds
    + count_by (λ row. not (is_turn_over (vertices_of network) network.turns row.from row.via row.to)) turns
