use Rattle.std.proofs.Common.{◌∙◌, ap, sym, option_and_then}
use Rattle.command_words.specs.Commands.{command_in}
use Rattle.command_words.proofs.Pairs.{option_map-pair}
use Rattle.command_words.proofs.words.command_in.Goals as goal

pub returns-in-Some : goal.returns-in-Some
returns-in-Some c =
    c.command_named.ensures
    ∙ sym (ap (option_and_then (λ p. command_in p.0 p.1)) (option_map-pair _ _ _ _ _ (sym c.in-Some.ensures.name) (sym c.in-Some.ensures.rows)))
