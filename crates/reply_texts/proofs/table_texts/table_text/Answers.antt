use Rattle.std.proofs.Common.{◌≡◌, [], ◌∷◌, ap, codes, sym, ◌∙◌, ◌++◌}
use Rattle.json_text.specs.declared.draft.Container.TheVariants as container
use Rattle.json_text.specs.Drafts.{Draft, begun, empty_draft, ended, with_value}
use Rattle.json_text.specs.Wholes.{with_members}
use Rattle.json_text.specs.WholeLaws.{object_written}
use Rattle.reply_texts.specs.Costs.{rows_value}
use Rattle.reply_texts.specs.Optional.{member_if}
use Rattle.refusal_texts.specs.Refusals.{code_member, version_member}
use Rattle.reply_texts.specs.Replies.{table_reply, waypoints_member}
use Rattle.reply_texts.specs.Waypoints.{waypoints_of}
use Rattle.reply_texts.specs.declared.cost_parts.CostPart.TheVariants as part
use Rattle.refusal_texts.specs.declared.reply_codes.Code.TheVariants as code
use Rattle.reply_texts.proofs.MemberLemmas.{four-members}
use Rattle.reply_texts.proofs.table_texts.table_text.Goals as goal

pub returns : goal.returns
unfolding table_reply
returns c =
    let asked = c.args.asked in
    let skip = c.args.request.now.skip_waypoints in
    let segments = c.args.network.now.segments in
    let durations = member_if asked.duration (codes "durations") (rows_value part.Duration c.args.rows.now) in
    let distances = member_if asked.distance (codes "distances") (rows_value part.Length c.args.rows.now) in
    let sources = waypoints_member skip (codes "sources") (waypoints_of segments c.args.sources.now.coordinates.now c.args.sources.now.places.now) in
    let destinations = waypoints_member skip (codes "destinations") (waypoints_of segments c.args.destinations.now.coordinates.now c.args.destinations.now.places.now) in
    rw (c.into_text.ensures.value, c.in_ok-end_object.ensures.ok, c.in_ok-push_waypoints_member-2.ensures.ok, c.in_ok-push_waypoints_member.ensures.ok, c.in_ok-push_rows_member-2.ensures.ok, c.in_ok-push_rows_member.ensures.ok, c.in_ok-begin_version_reply.ensures.ok, c.new-json.ensures)
    (ap (λ (d : Draft). d.bytes)
    (ap (ended container.Object) (sym (four-members durations distances sources destinations (with_members (code_member code.Ok ∷ version_member c.args.number ∷ []) (begun container.Object empty_draft))))
    ∙ object_written (code_member code.Ok ∷ version_member c.args.number ∷ (durations ++ distances ++ sources ++ destinations)) empty_draft))
