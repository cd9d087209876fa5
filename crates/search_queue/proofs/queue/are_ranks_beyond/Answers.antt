-- No rank's cost is less than that of the least rank.
use Rattle.std.proofs.lemmas.Bool.{OnTrue_from, OnTrue_at, OnFalse_from, OnFalse_at}
use Rattle.search_queue.proofs.Merged.{ranks_beyond, ranks_cheaper}
use Rattle.search_queue.proofs.queue.are_ranks_beyond.Goals as goal

pub returns-in-Some-clause-yes : goal.returns-in-Some-clause-yes
returns-in-Some-clause-yes g c =
    OnTrue_from _ _ (λ h. ranks_beyond g.met.C.Cost.laws g.met.C.Cost.ranks c.args.limit c.in-Some.least c.args.ranked.now c.requires c.in-Some.ensures.some (OnTrue_at h c.is_rank_beyond.ensures.yes))

pub returns-in-Some-clause-no : goal.returns-in-Some-clause-no
returns-in-Some-clause-no g c =
    OnFalse_from _ _ (λ h. ranks_cheaper g.met.C.Cost.laws g.met.C.Cost.ranks c.args.limit c.in-Some.least c.args.ranked.now c.in-Some.ensures.some (OnFalse_at h c.is_rank_beyond.ensures.no))
