use Rattle.std.proofs.Common.{[], ◌∷◌, ap, codes, ◌∙◌}
use Rattle.std.specs.Prelude.{map}
use Rattle.json_text.specs.Drafts.{Draft, empty_draft}
use Rattle.json_text.specs.Wholes.{array_of}
use Rattle.json_text.specs.WholeLaws.{object_written}
use Rattle.refusal_texts.specs.Refusals.{code_member, version_member}
use Rattle.reply_texts.specs.Replies.{nearest_reply}
use Rattle.reply_texts.specs.Waypoints.{neighbour_of}
use Rattle.refusal_texts.specs.declared.reply_codes.Code.TheVariants as code
use Rattle.reply_texts.proofs.nearest_texts.nearest_text.Goals as goal

pub returns : goal.returns
unfolding nearest_reply
returns c =
    rw (c.into_text.ensures.value, c.in_ok-end_object.ensures.ok, c.in_ok-push_neighbours.ensures, c.in_ok-key.ensures.ok, c.in_ok-begin_version_reply.ensures.ok, c.new-json.ensures)
    (ap (λ (d : Draft). d.bytes)
    (object_written (code_member code.Ok ∷ version_member c.args.number ∷ (codes "waypoints", array_of (map (neighbour_of c.args.network.now.segments c.args.coordinate) c.args.places.now)) ∷ []) empty_draft))
