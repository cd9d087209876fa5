use Rattle.std.specs.List.{slice_get}
use Rattle.geo_integer.specs.Position.{position_of}
use Rattle.json_text.specs.WholeLaws.{object_written}
use Rattle.reply_texts.specs.Waypoints.{members_on, waypoint_value}
use Rattle.reply_texts.proofs.waypoints.push_waypoint.Goals as goal

pub returns : goal.returns
unfolding waypoint_value
returns c =
    rw (c.in_ok-end_object.ensures.ok, c.in_ok-push_place.ensures.ok, c.in_ok-begin_object.ensures.ok)
    (object_written (members_on (slice_get c.args.network.now.segments c.args.place.segment) (position_of c.args.coordinate) c.args.place.at) c.args.json.now)
