use Rattle.std.proofs.Common.{ap, arith}
use Rattle.std.proofs.lemmas.List.{length-map}
use Rattle.road_io.specs.DoorOpening.{DoorsView}
use Rattle.worked_serving.proofs.serving_roads.serve_roads.Goals as goal

-- as many doors are out as were opened
pub put_back-requires : goal.put_back-requires
put_back-requires g c =
    let gives = c.in-Ok-open.ensures.gives in
    omega (arith, c.serve-served.ensures.doors, gives.0, length-map c.in-Ok-open.opened.queries.items g.N.Door.Door.view, ap (λ (v : DoorsView). v.out) gives.3)
