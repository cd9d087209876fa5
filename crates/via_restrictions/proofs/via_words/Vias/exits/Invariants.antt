use Rattle.std.proofs.Common.{◌≡◌, filter, take}
use Rattle.via_restrictions.specs.ViaWays.{may_follow}
use Rattle.road_segments.specs.Vertex.{vertices}
use Rattle.via_restrictions.proofs.via_words.Vias.exits.Given as goal

-- those of the vertices so far
abbrev pub invariant-loop-e : goal.invariant-loop-e
invariant-loop-e l = l.exits.items ≡ filter (may_follow (vertices l.self.turning.roads.now) l.self.turning.restrictions.now.kept l.last) (take l.e-index l.leaving)
