-- The point within the bounds is the definition's.
use Rattle.std.proofs.Common.{ap₂, ◌∙◌, w64}
use Rattle.std.proofs.lemmas.Int.{to_z-of_z}
use Rattle.road_base.specs.Points.{point_at}
use Rattle.road_base.proofs.Earth.{point_at-of}
use Rattle.road_base.proofs.coordinates.Point.of.Goals as goal

pub returns-clause-point : goal.returns-clause-point
returns-clause-point c =
    point_at-of c.within_bounds.result _ _ c.within_bounds.ensures.range c.within_bounds.ensures.value
    ∙ ap₂ point_at (to_z-of_z w64 c.args.lon c.ranges.lon) (to_z-of_z w64 c.args.lat c.ranges.lat)
