use Rattle.road_segments.specs.Vertex.{vertices}
use Rattle.road_turns.proofs.FanLemmas.{AreBegun}
use Rattle.road_turns.proofs.fans.Fans.of.Given as goal

-- the vertices so far, in their order, stand at their nodes
abbrev pub invariant-loop-i : goal.invariant-loop-i
invariant-loop-i l = AreBegun (vertices l.roads) l.restrictions.kept l.departures.order.items l.i l.node l.fans.leaving.items l.fans.begins.items l.fans.restricted.items l.fans.nodes.items
