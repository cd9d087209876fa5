-- The first line ends behind the first newline, or with the text.
use Rattle.std.proofs.Common.{◌+◌, ◌∷◌, take, sym, ap, ◌∙◌}
use Rattle.opl_read.specs.Objects.{lines_of}
use Rattle.list_lemmas.proofs.Splitting.{to_the_end}
use Rattle.opl_read.proofs.Splitting.{lines_at_found, lines_not_found}
use Rattle.opl_read.proofs.lines.first_line.Goals as goal

pub returns-in-Some-clause-lines : goal.returns-in-Some-clause-lines
returns-in-Some-clause-lines c =
    let text = c.args.text.now in
    let at = c.in-Some.at in
    lines_at_found text at (sym c.in-Some.ensures) ∙ ap (λ more. take (at + 1) text ∷ lines_of more) (sym (to_the_end text (at + 1)))

pub returns-in-None-clause-lines : goal.returns-in-None-clause-lines
returns-in-None-clause-lines c = lines_not_found c.args.text.now c.requires (sym c.in-None.ensures)
