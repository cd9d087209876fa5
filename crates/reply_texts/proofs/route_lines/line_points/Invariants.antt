use Rattle.std.proofs.Common.{◌≡◌, take}
use Rattle.std.specs.Prelude.{map}
use Rattle.metric_make.specs.RoadMetric.{road_of}
use Rattle.route_steps.specs.Steps.{joined}
use Rattle.reply_texts.specs.RouteLegs.{ends_and_routes, leg_told}
use Rattle.reply_texts.proofs.route_lines.line_points.Given as goal

-- the points of the legs so far
abbrev pub invariant-loop-leg : goal.invariant-loop-leg
invariant-loop-leg l = l.points.items ≡ joined (map (λ pair. (leg_told (road_of l.network l.base) pair).points) (take l.leg (ends_and_routes l.places l.routes)))
