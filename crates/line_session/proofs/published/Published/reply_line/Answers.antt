-- What is held is what was published last.
use Rattle.std.proofs.Common.{◌≡◌, ◌++◌, ◌∙◌, ap, refl, rules, subst, sym}
use Rattle.std.proofs.lemmas.Option.{same_Some}
use Rattle.reply_core.specs.Answers.{IsLineAnswer}
use Rattle.line_session.specs.Publication.{Publication, newline, publication_of}
use Rattle.line_session.proofs.published.Published.reply_line.Goals as goal

pub returns : goal.returns
returns g c =
    let held = c.in_ok-held.held in
    let answer = c.in_ok-answer.answer in
    let same : c.args.self.now ≡ publication_of held =
    sym c.self.view_is ∙ ap publication_of (same_Some _ _ (sym c.self.inside.board.page.last ∙ c.in_ok-held.ensures.last)) in
    let text : c.of.result ≡ answer.text ++ newline = search rules in
    (answer.text, (answer, subst (λ (p : Publication). IsLineAnswer p.value p.number c.args.line.now answer) (sym same) c.in_ok-answer.ensures.says, refl), text)
