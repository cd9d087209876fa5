use Rattle.std.proofs.Common.{◌≡◌, drop}
use Rattle.std.specs.List.{list_all}
use Rattle.via_restrictions.specs.ViaWays.{along, is_open}
use Rattle.road_segments.specs.Vertex.{vertices}
use Rattle.via_restrictions.proofs.via_ways.ViaWays.are_open.Given as goal

-- what is left to try is from way i on
abbrev pub invariant-loop-i : goal.invariant-loop-i
invariant-loop-i l =
    list_all (λ way. is_open (vertices l.turning.roads.now) (along (vertices l.turning.roads.now) way)) (drop l.i l.via)
    ≡ list_all (λ way. is_open (vertices l.turning.roads.now) (along (vertices l.turning.roads.now) way)) l.via
