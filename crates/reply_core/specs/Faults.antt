-- The crate's own: what it tells where a request gets nothing of what it asks for.
use Rattle.std.specs.Prelude.{ℕ, List}
use Rattle.road_base.specs.declared.coordinates.Point.{Point}
use Rattle.road_base.specs.declared.segments.Place.{Place}
use Rattle.option_values.specs.declared.option_types.ContinueStraight.{ContinueStraight}
use Rattle.option_values.specs.declared.option_types.ContinueStraight.TheVariants as straight
use Rattle.url_read.specs.declared.requests.Request.{Request}
use Rattle.metric_make.specs.RoadMetric.{RoadMetric}
use Rattle.road_through.specs.Through.{IsThroughFault}
use Rattle.road_walks.specs.Legs.{IsLegFault}
use Rattle.road_walks.specs.declared.leg_faults.LegFault.{LegFault}
use Rattle.road_walks.specs.declared.leg_faults.LegFault.TheVariants as leg
use Rattle.snap_index.specs.declared.filters.Filter.{Filter}
use Rattle.refusal_texts.specs.declared.lacks.Lack.TheVariants as lack
use Rattle.reply_core.specs.Lacks.{IsLack, IsStray}
use Rattle.reply_core.specs.declared.lacks.PlaceFault.{PlaceFault}
use Rattle.reply_core.specs.declared.lacks.PlaceFault.TheVariants as place
use Rattle.reply_core.specs.declared.lacks.FoundFault.{FoundFault}
use Rattle.reply_core.specs.declared.lacks.FoundFault.TheVariants as fault

-- what a fault tells of the coordinates; want of memory tells nothing
abbrev pub IsPlaceFault : RoadMetric → List (Point × Filter) → PlaceFault → Type 0
IsPlaceFault road asked (place.NoPlace coordinate) = IsStray road asked coordinate
IsPlaceFault road asked place.Memory = Unit {0}

-- and what one tells of the request
abbrev pub IsFoundFault : RoadMetric → ℕ → Request → FoundFault → Type 0
IsFoundFault road number request (fault.Lacks what) = IsLack road number request what
IsFoundFault road number request fault.Memory = Unit {0}

-- what a fault of the legs tells, as the request asks for these
abbrev pub IsLegFaultBy : ContinueStraight → RoadMetric → List Place → LegFault → Type 0
IsLegFaultBy straight.Default road places told = IsLegFault road places told
IsLegFaultBy straight.Off road places told = IsLegFault road places told
IsLegFaultBy straight.On road places told = IsThroughFault road places told

-- a fault of the places, and one of the legs, as one of the request
abbrev pub place_fault : PlaceFault → FoundFault
place_fault (place.NoPlace coordinate) = fault.Lacks (lack.Segment coordinate)
place_fault place.Memory = fault.Memory

abbrev pub leg_fault : LegFault → FoundFault
leg_fault (leg.NoWalk number) = fault.Lacks (lack.Route number)
leg_fault leg.Memory = fault.Memory
