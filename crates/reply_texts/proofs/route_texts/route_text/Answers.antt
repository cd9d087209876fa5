use Rattle.std.proofs.Common.{[], ◌∷◌, ap, codes}
use Rattle.json_text.specs.Drafts.{Draft, empty_draft}
use Rattle.json_text.specs.Wholes.{array_of}
use Rattle.json_text.specs.WholeLaws.{object_written}
use Rattle.metric_make.specs.RoadMetric.{road_of}
use Rattle.reply_texts.specs.Legs.{route_value}
use Rattle.refusal_texts.specs.Refusals.{code_member, version_member}
use Rattle.reply_texts.specs.Replies.{route_reply, waypoints_member}
use Rattle.reply_texts.specs.RouteLegs.{legs_told}
use Rattle.reply_texts.specs.Waypoints.{waypoints_of}
use Rattle.refusal_texts.specs.declared.reply_codes.Code.TheVariants as code
use Rattle.reply_texts.proofs.route_texts.route_text.Goals as goal

pub returns : goal.returns
unfolding route_reply
returns c =
    let request = c.args.request.now in
    let places = c.args.places.now in
    let route = route_value c.args.telling.now c.args.network.now.profile (legs_told (road_of c.args.network.now c.args.base.now) places c.args.routes.now) in
    let waypoints = waypoints_member request.skip_waypoints (codes "waypoints") (waypoints_of c.args.network.now.segments request.points places) in
    rw (c.into_text.ensures.value, c.in_ok-end_object.ensures.ok, c.in_ok-push_waypoints_member.ensures.ok, c.as_slice.ensures, c.in_ok-push_routes.ensures, c.in_ok-key.ensures.ok, c.in_ok-begin_version_reply.ensures.ok, c.new-json.ensures)
    (ap (λ (d : Draft). d.bytes)
    (object_written (code_member code.Ok ∷ version_member c.args.number ∷ (codes "routes", array_of (route ∷ [])) ∷ waypoints) empty_draft))
