-- What a request asks of the legs of a route: each of them by itself, or all of them as one walk that goes on at each
-- place as it came there (OSRM's option `continue_straight`; that `default` is `false` is this project's rule).
use Rattle.std.specs.Prelude.{ℕ, List}
use Rattle.road_base.specs.declared.segments.Place.{Place}
use Rattle.option_values.specs.declared.option_types.ContinueStraight.{ContinueStraight}
use Rattle.option_values.specs.declared.option_types.ContinueStraight.TheVariants as straight
use Rattle.metric_make.specs.RoadMetric.{RoadMetric}
use Rattle.road_places.specs.declared.walks.Route.{Route}
use Rattle.road_through.specs.Through.{IsBrokenThrough, IsLeastThrough}
use Rattle.road_walks.specs.Legs.{AreLeastRoutes, IsBrokenLeg}

-- none of the routes could cost less along its leg; or together they are one walk, and no such walk costs less
abbrev pub AreLeastBy : ContinueStraight → RoadMetric → List Place → List Route → Type 0
AreLeastBy straight.Default road places routes = AreLeastRoutes road places routes
AreLeastBy straight.Off road places routes = AreLeastRoutes road places routes
AreLeastBy straight.On road places routes = IsLeastThrough road places routes

-- the leg of this number is the first without a permitted walk; or the first behind which no one walk reaches
abbrev pub IsBrokenBy : ContinueStraight → RoadMetric → List Place → ℕ → Type 0
IsBrokenBy straight.Default road places leg = IsBrokenLeg road places leg
IsBrokenBy straight.Off road places leg = IsBrokenLeg road places leg
IsBrokenBy straight.On road places leg = IsBrokenThrough road places leg
