use Rattle.std.proofs.Common.{sym, subst}
use Rattle.json_text.specs.Drafts.{TakesValue}
use Rattle.json_text.proofs.Steps.{value_kept}
use Rattle.json_text.proofs.writer.Json.value.Goals as goal

pub invariant_of-self-2 : goal.invariant_of-self-2
invariant_of-self-2 c =
    value_kept _ _ _ c.requires.text.0 c.self.invariant (subst TakesValue (sym c.self.view_is) c.requires.takes) c.requires.text.1
    (rw (← c.comma.ensures) c.in_ok-append_all.ensures.ok)
