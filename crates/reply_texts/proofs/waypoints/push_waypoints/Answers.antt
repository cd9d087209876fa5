use Rattle.std.proofs.Common.{◌≡◌, ◌<◌, ap, arith, get_or, length, sym, ◌∙◌}
use Rattle.std.specs.List.{zip}
use Rattle.std.proofs.lemmas.Option.{get_or_from_slice_get, slice_get-get_or}
use Rattle.std.proofs.lemmas.Slice.Zip.{length-zip}
use Rattle.road_base.specs.declared.coordinates.Point.{Point}
use Rattle.road_base.specs.declared.segments.Place.{Place}
use Rattle.json_text.specs.Drafts.{with_value}
use Rattle.reply_texts.specs.Waypoints.{waypoint_of}
use Rattle.reply_texts.proofs.WaypointLemmas.{pair-at}
use Rattle.json_text.specs.Items.{all_written, may_come, may_end, one_more}
use Rattle.reply_texts.proofs.waypoints.push_waypoints.Goals as goal

pub push_waypoint-requires-clause-takes : goal.push_waypoint-requires-clause-takes
push_waypoint-requires-clause-takes c = may_come (waypoint_of c.args.network.now.segments) (zip c.args.coordinates.now c.args.places.now) c.args.json.now c.loop-number.number c.loop-number.json c.loop-number.invariant

-- one more
pub loop-number-preserved : goal.loop-number-preserved
loop-number-preserved c =
    let coordinates = c.args.coordinates.now in
    let places = c.args.places.now in
    let k = c.loop-number.number in
    let coordinate = c.index-coordinates-number.result in
    let nowhere : Place = record { segment = 0; at = 0 } in
    let place = get_or places k nowhere in
    let inside : k < length places = omega arith in
    let same : place ≡ get_or places k place = sym (get_or_from_slice_get places k place place (slice_get-get_or places k nowhere inside)) in
    let pair = pair-at coordinates places k coordinate place c.index-coordinates-number.is same (omega arith) inside in
    one_more (waypoint_of c.args.network.now.segments) (zip coordinates places) c.args.json.now k (coordinate, place) c.loop-number.json _ (omega (arith, length-zip coordinates places)) c.loop-number.invariant
    (c.in_ok-push_waypoint.ensures ∙ ap (λ (pair : Point × Place). with_value (waypoint_of c.args.network.now.segments pair) c.loop-number.json) (sym pair))

pub end_list-requires : goal.end_list-requires
end_list-requires c = may_end (waypoint_of c.args.network.now.segments) (zip c.args.coordinates.now c.args.places.now) c.args.json.now c.loop-number.number c.loop-number.json c.loop-number.invariant

-- all of them
pub returns : goal.returns
returns c =
    all_written (waypoint_of c.args.network.now.segments) (zip c.args.coordinates.now c.args.places.now) c.args.json.now c.loop-number.number c.loop-number.json _ (omega (arith, length-zip c.args.coordinates.now c.args.places.now)) c.loop-number.invariant c.in_ok-end_list.ensures.ok
