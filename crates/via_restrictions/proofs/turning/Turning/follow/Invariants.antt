use Rattle.std.proofs.Common.{◌≡◌, ◌-◌, drop}
use Rattle.via_restrictions.specs.ViaWays.{follow}
use Rattle.road_segments.specs.Vertex.{vertices}
use Rattle.via_restrictions.proofs.turning.Turning.follow.Given as goal

-- what is left to try is from the vertex before on
abbrev pub invariant-loop-i : goal.invariant-loop-i
invariant-loop-i l =
    follow (vertices l.self.roads.now) l.self.restrictions.now.kept (drop (l.i - 1) l.path) ≡ follow (vertices l.self.roads.now) l.self.restrictions.now.kept l.path
