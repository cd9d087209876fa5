use Rattle.std.proofs.Common.{◌≡◌, ℕ, Some, length}
use Rattle.std.specs.List.{slice_get}
use Rattle.road_turns.specs.Turn.{exits}
use Rattle.road_segments.specs.Vertex.{vertices}
use Rattle.road_turns.proofs.turn_lists.exit_counts.Given as goal

-- the vertices so far have their exits counted
abbrev pub invariant-loop-v : goal.invariant-loop-v
invariant-loop-v l = record {
  as_many : length l.counts.items ≡ l.v;
  each : (v n : ℕ) → slice_get l.counts.items v ≡ Some n → n ≡ exits (vertices l.roads) v;
}
