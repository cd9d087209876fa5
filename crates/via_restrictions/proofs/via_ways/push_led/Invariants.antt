use Rattle.std.proofs.Common.{◌≡◌, ◌++◌, filter, map, take}
use Rattle.via_restrictions.specs.ViaParts.{lists_in}
use Rattle.via_restrictions.specs.ViaWays.{follow}
use Rattle.road_segments.specs.Vertex.{vertices}
use Rattle.via_restrictions.proofs.via_ways.push_led.Given as goal

-- those so far are added
abbrev pub invariant-loop-i : goal.invariant-loop-i
invariant-loop-i l =
    lists_in l.paths.items
    ≡ lists_in l.fn.paths.items ++ filter (follow (vertices l.turning.roads.now) l.turning.restrictions.now.kept) (map (λ path. l.run ++ path) (lists_in (take l.i l.rest)))
