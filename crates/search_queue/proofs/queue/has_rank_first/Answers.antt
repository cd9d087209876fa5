-- The costs of the least rank and the least key tell which of them comes first.
use Rattle.std.proofs.Common.{◌∙◌, sym, ap}
use Rattle.std.proofs.lemmas.Bool.{OnTrue_from, OnFalse_from, not-true, not-false}
use Rattle.std.specs.Ordering.{is_lt}
use Rattle.search_queue.proofs.Merged.{rank_first, key_first}
use Rattle.search_queue.proofs.queue.has_rank_first.Goals as goal

pub returns-in-Some-least-clause-yes : goal.returns-in-Some-least-clause-yes
returns-in-Some-least-clause-yes g c =
    let is = c.is_lt.ensures ∙ ap is_lt c.cmp.ensures in
    OnTrue_from _ _ (λ h. rank_first g.met.C.Cost.laws g.met.C.Cost.ranks g.C.Ord.cmp g.met.C.Cost.same_order c.in-Some-least.rank c.in-Some.key c.args.ranked.now c.args.others.now c.requires
    c.in-Some-least.ensures.some c.in-Some.ensures.some (rw (← c.of_rank.ensures) (sym is ∙ not-true c.is_lt.result h)))

pub returns-in-Some-least-clause-no : goal.returns-in-Some-least-clause-no
returns-in-Some-least-clause-no g c =
    let is = c.is_lt.ensures ∙ ap is_lt c.cmp.ensures in
    OnFalse_from _ _ (λ h. key_first g.met.C.Cost.laws g.met.C.Cost.ranks g.C.Ord.cmp g.met.C.Cost.same_order c.in-Some-least.rank c.in-Some.key c.args.ranked.now c.args.others.now c.requires
    c.in-Some-least.ensures.some c.in-Some.ensures.some (rw (← c.of_rank.ensures) (sym is ∙ not-false c.is_lt.result h)))
