use Rattle.std.proofs.Common.{take}
use Rattle.std.specs.List.{AllZip}
use Rattle.road_walks.specs.Least.{most_units}
use Rattle.road_walks.specs.Legs.{AreWithinUnits, IsLeastAlong, legs_of}
use Rattle.road_walks.proofs.legs.least_routes.Given as goal

-- the legs so far have these routes, none of which costs too much
abbrev pub invariant-loop-leg : goal.invariant-loop-leg
invariant-loop-leg l = record {
  least : AllZip (IsLeastAlong l.under.road) (take l.leg (legs_of l.places)) l.routes.items;
  bound : AreWithinUnits (most_units l.under.road.network) l.routes.items;
}
