use Rattle.std.proofs.Common.{◌≡◌, map, drop}
use Rattle.std.specs.Prelude.{sum_by}
use Rattle.road_io.proofs.doorways.any_fault.Given as goal

-- no door so far has counted a fault
abbrev pub invariant-loop-door : goal.invariant-loop-door
invariant-loop-door g l =
    sum_by (λ door. door.faults) (map g.D.Door.view l.queries) ≡ sum_by (λ door. door.faults) (map g.D.Door.view (drop l.door-index l.queries))
