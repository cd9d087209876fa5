use Rattle.std.proofs.Common.{[], ◌∷◌}
use Rattle.json_text.specs.WholeLaws.{array_written}
use Rattle.metric_make.specs.RoadMetric.{road_of}
use Rattle.reply_texts.specs.Legs.{route_value}
use Rattle.reply_texts.specs.RouteLegs.{legs_told}
use Rattle.reply_texts.proofs.route_texts.push_routes.Goals as goal

pub returns : goal.returns
returns c =
    rw (c.in_ok-end_list.ensures.ok, c.in_ok-push_route.ensures, c.in_ok-begin_list.ensures.ok)
    (array_written (route_value c.args.telling.now c.args.network.now.profile (legs_told (road_of c.args.network.now c.args.base.now) c.args.places.now c.args.routes.now) ∷ []) c.args.json.now)
