use Rattle.std.proofs.Common.{[], ◌∷◌}
use Rattle.json_text.specs.WholeLaws.{object_written}
use Rattle.refusal_texts.specs.Codes.{lack_code, lack_message}
use Rattle.refusal_texts.specs.Refusals.{code_member, lack_value, message_member, version_member}
use Rattle.refusal_texts.proofs.refusals.push_lack.Goals as goal

pub returns : goal.returns
unfolding lack_value
returns c =
    rw (c.in_ok-end_object.ensures.ok, c.in_ok-text_member.ensures.ok, c.in_ok-begin_version_reply.ensures.ok, c.code.ensures, c.requires.says)
    (object_written (code_member (lack_code c.args.lack) ∷ version_member c.args.number ∷ message_member (lack_message c.args.lack) ∷ []) c.args.json.now)
