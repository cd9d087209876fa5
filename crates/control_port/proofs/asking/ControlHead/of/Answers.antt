use Rattle.std.proofs.Common.{◌≡◌, sym, ◌∙◌, ap, codes}
use Rattle.std.specs.Prelude.{bytes_eq, not}
use Rattle.control_port.proofs.DigitValues.{else_of}
use Rattle.control_port.proofs.asking.ControlHead.of.Goals as goal

pub returns-then-ne-clause-asked : goal.returns-then-ne-clause-asked
returns-then-ne-clause-asked c size h is =
    let method = c.of.ensures ∙ is.method in
    else_of (bytes_eq h.method (codes "POST")) _ _ (sym c.if-ne.true ∙ c.ne.ensures ∙ ap (λ m. not (bytes_eq m c.as_slice.result.now)) method ∙ ap (λ p. not (bytes_eq h.method p)) c.as_slice.ensures)
