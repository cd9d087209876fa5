use Rattle.std.proofs.Common.{[], ◌∷◌}
use Rattle.json_text.specs.WholeLaws.{object_written}
use Rattle.refusal_texts.specs.Refusals.{code_member, message_member, refusal_value}
use Rattle.refusal_texts.proofs.refusals.push_refusal.Goals as goal

pub returns : goal.returns
unfolding refusal_value
returns c =
    rw (c.in_ok-end_object.ensures.ok, c.in_ok-text_member.ensures.ok, c.in_ok-begin_reply.ensures.ok)
    (object_written (code_member c.args.kind ∷ message_member c.args.message.now ∷ []) c.args.json.now)
