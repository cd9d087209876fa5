use Rattle.std.proofs.Common.{◌≡◌}
use Rattle.metric_make.specs.RoadMetric.{road_of}
use Rattle.reply_texts.specs.Legs.{leg_value}
use Rattle.reply_texts.specs.RouteLegs.{ends_and_routes, leg_told}
use Rattle.step_texts.specs.Steps.{driving_side}
use Rattle.json_text.specs.Items.{so_far}
use Rattle.reply_texts.proofs.legs.push_legs.Given as goal

-- what is written so far
abbrev pub invariant-loop-leg : goal.invariant-loop-leg
invariant-loop-leg l = l.json ≡ so_far (λ pair. leg_value l.telling (driving_side l.network.profile) (leg_told (road_of l.network l.base) pair)) (ends_and_routes l.places l.routes) l.fn.json l.leg
