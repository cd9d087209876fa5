-- The line is no traffic line.
use Rattle.std.proofs.Common.{ℕ, List, Option, subst}
use Rattle.line_session.specs.Leading.{IsReplyTo}
use Rattle.line_session.proofs.AnswerLaws.{replied}
use Rattle.line_session.proofs.replying.reply.Goals as goal

pub returns-in-Ok-clause-reply : goal.returns-in-Ok-clause-reply
returns-in-Ok-clause-reply g c =
    let files = g.F.Files.view c.args.files.now in
    subst (λ (names : Option (List ℕ × List ℕ)). IsReplyTo c.args.published.now c.args.line.now names c.in-Ok.text files files c.args.published.now) c.in-None.ensures
    (replied c.args.published.now c.args.line.now c.in-Ok.text files c.in-Ok.ensures)
