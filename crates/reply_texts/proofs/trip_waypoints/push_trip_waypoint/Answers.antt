use Rattle.std.proofs.Common.{ap, sym, ◌∙◌, ◌++◌}
use Rattle.std.specs.List.{slice_get}
use Rattle.geo_integer.specs.Position.{position_of}
use Rattle.json_text.specs.declared.draft.Container.TheVariants as container
use Rattle.json_text.specs.Drafts.{begun, ended}
use Rattle.json_text.specs.WholeLaws.{object_written, with_members-append}
use Rattle.reply_texts.specs.Waypoints.{members_on, trip_members, waypoint_value}
use Rattle.reply_texts.proofs.trip_waypoints.push_trip_waypoint.Goals as goal

pub returns : goal.returns
unfolding waypoint_value
returns c =
    let stop = c.args.stop in
    let front = trip_members c.args.order.now c.args.number in
    let place = members_on (slice_get c.args.network.now.segments stop.1.segment) (position_of stop.0) stop.1.at in
    rw (c.in_ok-end_object.ensures.ok, c.in_ok-push_place.ensures.ok, c.in_ok-push_visit.ensures.ok, c.in_ok-begin_object.ensures.ok)
    (ap (ended container.Object) (sym (with_members-append front place (begun container.Object c.args.json.now)))
    ∙ object_written (front ++ place) c.args.json.now)
