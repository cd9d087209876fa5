use Rattle.std.proofs.Common.{◌≡◌, filter, take}
use Rattle.via_restrictions.specs.ViaWays.{is_onto, is_shut}
use Rattle.road_segments.specs.Vertex.{vertices}
use Rattle.via_restrictions.proofs.via_words.Vias.shut.Given as goal

-- those of the vertices so far
abbrev pub invariant-loop-e : goal.invariant-loop-e
invariant-loop-e l = l.ends.items ≡ filter (is_onto (vertices l.self.turning.roads.now) (is_shut l.self.rules.now l.number)) (take l.e-index l.exits)
