use Rattle.std.proofs.Common.{◌≡◌, ◌++◌, drop}
use Rattle.std.specs.List.{enumerate_from, flat_map}
use Rattle.road_turns.specs.Turn.{turns, turns_from}
use Rattle.road_turns.specs.TurnParts.{AreOpenRows}
use Rattle.road_segments.specs.Vertex.{vertices}
use Rattle.road_turns.proofs.turn_lists.turn_list.Given as goal

-- the turns from the vertices so far are listed
abbrev pub invariant-loop-v : goal.invariant-loop-v
invariant-loop-v l = record {
  so_far : l.list.items ++ flat_map (turns_from (vertices l.roads) l.restrictions.kept) (enumerate_from l.v (drop l.v (vertices l.roads))) ≡ turns (vertices l.roads) l.restrictions.kept;
  rows : AreOpenRows l.restrictions.kept l.exits.leaving.runs l.rows;
}
