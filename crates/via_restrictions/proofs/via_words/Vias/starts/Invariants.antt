use Rattle.std.proofs.Common.{◌≡◌, take}
use Rattle.road_segments.specs.Vertex.{vertices}
use Rattle.via_restrictions.proofs.ViaLemmas.{starts_among}
use Rattle.via_restrictions.proofs.via_words.Vias.starts.Given as goal

-- those of the vertices so far
abbrev pub invariant-loop-e : goal.invariant-loop-e
invariant-loop-e l = l.starts.items ≡ starts_among (vertices l.self.turning.roads.now) l.self.turning.restrictions.now.kept l.from l.first (take l.e-index l.leaving)
