-- An entry whose key is more than its vertex's label is passed over.
use Rattle.std.proofs.Common.{inr, sym}
use Rattle.step_search.proofs.settling.settle_at.Goals as goal

pub returns-then-is_less-clause-none : goal.returns-then-is_less-clause-none
returns-then-is_less-clause-none g c = inr (inr (c.in_ok-label.label, sym c.in_ok-label.ensures, c.if-is_less.ensures.yes))
