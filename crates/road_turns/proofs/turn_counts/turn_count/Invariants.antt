use Rattle.std.proofs.Common.{◌≡◌, ◌+◌, ◌≤◌, drop, length}
use Rattle.std.specs.List.{enumerate_from, flat_map}
use Rattle.road_turns.specs.Limits.{most_turns}
use Rattle.road_turns.specs.Turn.{turns, turns_from}
use Rattle.road_turns.specs.TurnParts.{AreOpenCounts}
use Rattle.road_segments.specs.Vertex.{vertices}
use Rattle.road_turns.proofs.turn_counts.turn_count.Given as goal

-- the turns from the vertices so far are counted, and they are not too many
abbrev pub invariant-loop-v : goal.invariant-loop-v
invariant-loop-v l = record {
  so_far : l.count + length (flat_map (turns_from (vertices l.roads) l.restrictions.kept) (enumerate_from l.v (drop l.v (vertices l.roads)))) ≡ length (turns (vertices l.roads) l.restrictions.kept);
  few : l.count ≤ most_turns;
  counts : AreOpenCounts l.restrictions.kept l.exits.leaving.runs l.counts;
}
