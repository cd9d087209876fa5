use Rattle.std.proofs.Common.{sym, subst, rules}
use Rattle.json_text.specs.Drafts.{TakesEnd}
use Rattle.json_text.proofs.Pieces.{reverse_popped}
use Rattle.json_text.proofs.Steps.{end_kept}
use Rattle.json_text.proofs.writer.Json.end.Goals as goal

pub invariant_of-self-2 : goal.invariant_of-self-2
invariant_of-self-2 c =
    end_kept c.args.container _ _ _ c.self.invariant (subst (TakesEnd c.args.container) (sym c.self.view_is) c.requires)
    (rw (← c.closing_bracket.ensures) (search rules))
    (reverse_popped _ _ _ _ _ c.pop.ensures.items c.pop.ensures.rest c.pop.ensures.cases)
