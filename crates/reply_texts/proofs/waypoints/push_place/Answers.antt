use Rattle.std.proofs.Common.{ℕ, List, ap, refl}
use Rattle.std.specs.List.{slice_get}
use Rattle.geo_integer.specs.Position.{position_of}
use Rattle.json_text.specs.Values.{JsonValue}
use Rattle.json_text.specs.Wholes.{with_members}
use Rattle.reply_texts.proofs.WaypointLemmas.{members-is}
use Rattle.reply_texts.proofs.waypoints.push_place.Goals as goal

pub returns-clause-ok : goal.returns-clause-ok
returns-clause-ok c =
    let segments = c.args.network.now.segments in
    rw (c.in_ok-degrees.ensures.ok, c.in_ok-key.ensures.ok, c.in_ok-text_member.ensures.ok, c.in_ok-tenths_member.ensures.ok, c.from.ensures)
    (ap (λ (members : List (List ℕ × JsonValue)). with_members members c.args.json.now)
    (members-is segments c.args.coordinate c.args.place (position_of c.point-point.result) c.name-name.result.now c.distance.result (slice_get segments c.args.place.segment) refl c.point-point.ensures c.name-name.ensures.by_segment c.distance.ensures.value))
