use Rattle.road_segments.specs.Vertex.{vertices}
use Rattle.via_restrictions.proofs.ViaLemmas.{AreAlongUpTo}
use Rattle.via_restrictions.proofs.via_ways.along_of.Given as goal

-- those from number v on are still to be added
abbrev pub invariant-loop-v : goal.invariant-loop-v
invariant-loop-v l = AreAlongUpTo (vertices l.roads) l.ways l.along l.v
