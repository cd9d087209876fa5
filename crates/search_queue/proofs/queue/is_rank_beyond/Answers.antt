-- Two ranks are compared as their costs are.
use Rattle.std.proofs.Common.{sym}
use Rattle.std.proofs.lemmas.Bool.{OnTrue_from, OnFalse_from, leb-true, leb-false}
use Rattle.search_queue.proofs.Merged.{rank_beyond, rank_below}
use Rattle.search_queue.proofs.queue.is_rank_beyond.Goals as goal

pub returns-in-Some-clause-yes : goal.returns-in-Some-clause-yes
returns-in-Some-clause-yes g c =
    OnTrue_from _ _ (λ h. rank_beyond g.met.C.Cost.laws g.met.C.Cost.ranks c.args.limit c.in-Some.last c.args.rank (sym c.in-Some.ensures) c.requires (leb-true c.in-Some.last c.args.rank h))

pub returns-in-Some-clause-no : goal.returns-in-Some-clause-no
returns-in-Some-clause-no g c =
    OnFalse_from _ _ (λ h. rank_below g.met.C.Cost.laws g.met.C.Cost.ranks c.args.limit c.in-Some.last c.args.rank (sym c.in-Some.ensures) c.requires (leb-false c.in-Some.last c.args.rank h))
