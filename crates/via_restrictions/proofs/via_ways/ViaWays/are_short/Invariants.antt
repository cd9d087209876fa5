use Rattle.std.proofs.Common.{◌≡◌, ◌+◌, take}
use Rattle.via_restrictions.specs.ViaWays.{length_through}
use Rattle.road_segments.specs.Vertex.{vertices}
use Rattle.via_restrictions.proofs.via_ways.ViaWays.are_short.Given as goal

-- so many are left behind the ways so far
abbrev pub invariant-loop-i : goal.invariant-loop-i
invariant-loop-i l = l.left + length_through (vertices l.turning.roads.now) (take l.i l.via) ≡ 64
