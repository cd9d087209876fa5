use Rattle.std.proofs.Common.{◌≡◌, drop, filter}
use Rattle.via_restrictions.specs.ViaParts.{lists_in}
use Rattle.via_restrictions.specs.ViaWays.{follow, paths_through}
use Rattle.road_segments.specs.Vertex.{vertices}
use Rattle.via_restrictions.proofs.via_ways.ViaWays.paths_through.Given as goal

-- the paths through the ways from number i on
abbrev pub invariant-loop-i : goal.invariant-loop-i
invariant-loop-i l =
    lists_in l.paths.items ≡ filter (follow (vertices l.turning.roads.now) l.turning.restrictions.now.kept) (paths_through (vertices l.turning.roads.now) (drop l.i l.via))
