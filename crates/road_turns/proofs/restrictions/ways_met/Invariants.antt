use Rattle.std.proofs.Common.{drop}
use Rattle.road_segments.specs.Vertex.{vertices}
use Rattle.road_turns.proofs.RuleLemmas.{HaveMet}
use Rattle.road_turns.proofs.restrictions.ways_met.Given as goal

-- the vertices from number v on have met the nodes
abbrev pub invariant-loop-v : goal.invariant-loop-v
invariant-loop-v l = HaveMet l.nodes (drop l.v (vertices l.roads)) l.met
