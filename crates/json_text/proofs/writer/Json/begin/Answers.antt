use Rattle.std.proofs.Common.{refl, sym, subst, append-nil}
use Rattle.std.proofs.lemmas.List.{reverse-append}
use Rattle.json_text.specs.Drafts.{TakesValue}
use Rattle.json_text.proofs.Steps.{begin_kept}
use Rattle.json_text.proofs.writer.Json.begin.Goals as goal

pub invariant_of-self-in-Ok : goal.invariant_of-self-in-Ok
invariant_of-self-in-Ok c =
    begin_kept c.args.container _ _ _ c.self.invariant (subst TakesValue (sym c.self.view_is) c.requires)
    (rw (← c.comma.ensures, ← c.opening_bracket.ensures) (rw append-nil at c.in-Ok.ensures.ok))
    (rw (c.in_ok-push.ensures.items, reverse-append) refl)
