use Rattle.std.proofs.Common.{take}
use Rattle.std.specs.List.{AllZip}
use Rattle.road_walks.specs.Least.{most_units}
use Rattle.road_walks.specs.Legs.{AreWithinUnits}
use Rattle.road_through.specs.States.{IsLeastBy, legs_by}
use Rattle.road_through.proofs.routes.routes_by.Given as goal

-- the legs so far have these routes, none of which costs too much
abbrev pub invariant-loop-leg : goal.invariant-loop-leg
invariant-loop-leg l = record {
  routes : AllZip (IsLeastBy l.under.road) (take l.leg (legs_by l.places l.states)) l.routes.items;
  bound : AreWithinUnits (most_units l.under.road.network) l.routes.items;
}
