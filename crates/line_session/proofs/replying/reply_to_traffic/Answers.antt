-- The reply is what comes of the bytes that were read.
use Rattle.std.proofs.Common.{ℕ, List, subst}
use Rattle.line_session.specs.Leading.{IsTrafficReply}
use Rattle.line_session.proofs.AnswerLaws.{traffic_replied}
use Rattle.line_session.proofs.replying.reply_to_traffic.Goals as goal

pub returns-in-Ok-publish-clause-reply : goal.returns-in-Ok-publish-clause-reply
returns-in-Ok-publish-clause-reply g c =
    traffic_replied c.args.published.now c.publish.new.self c.args.line.now c.in-Ok.speeds_bytes.items c.in-Ok.turns_bytes.items c.in-Ok-publish.text (c.args.speeds.now, c.args.turns.now) (g.F.Files.view c.args.files.now) (g.F.Files.view c.read_both.new.files)
    c.in-Ok.ensures.read
    (subst (λ (turns : List ℕ). IsTrafficReply c.args.published.now c.in-Ok.speeds_bytes.items turns c.in-Ok-publish.text c.publish.new.self) c.as_slice-in-Ok.ensures.value
    (subst (λ (speeds : List ℕ). IsTrafficReply c.args.published.now speeds c.as_slice-in-Ok.result.now c.in-Ok-publish.text c.publish.new.self) c.as_slice.ensures.value c.in-Ok-publish.ensures.reply))
