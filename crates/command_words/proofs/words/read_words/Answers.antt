-- The command of the matches is the command of the words, and where there are matches there is one.
use Rattle.std.proofs.Common.{◌≡◌, ◌∙◌, None, Some, ap, sym, option_and_then}
use Rattle.command_words.specs.Commands.{command_in}
use Rattle.command_words.proofs.Named.{named}
use Rattle.command_words.proofs.Taken.{command_of-taken, fault-cause, made-has-numbers}
use Rattle.command_words.proofs.words.read_words.Goals as goal

pub returns-in-Err-clause-unknown : goal.returns-in-Err-clause-unknown
returns-in-Err-clause-unknown c = fault-cause _ c.in-Err.error _ c.in-Err.ensures.fails c.fault_of_error.ensures

pub returns-clause-read : goal.returns-clause-read
returns-clause-read c =
    command_of-taken _ c.in-Ok.ensures.fails ∙ ap (option_and_then (λ p. command_in p.0 p.1)) (sym c.in-Ok.ensures.matches) ∙ sym c.in-Some.ensures

pub unreachable-requires : goal.unreachable-requires
unreachable-requires c =
    let none = command_of-taken _ c.in-Ok.ensures.fails ∙ ap (option_and_then (λ p. command_in p.0 p.1)) (sym c.in-Ok.ensures.matches) ∙ sym c.in-None.ensures in
    let found = named _ c.in-Ok.ensures.fails in
    let bad : None ≡ Some found.0 = sym none ∙ found.1 in
    absurd (cc)

pub returns-clause-numbers : goal.returns-clause-numbers
returns-clause-numbers c =
    made-has-numbers _ _ (command_of-taken _ c.in-Ok.ensures.fails ∙ ap (option_and_then (λ p. command_in p.0 p.1)) (sym c.in-Ok.ensures.matches) ∙ sym c.in-Some.ensures)
