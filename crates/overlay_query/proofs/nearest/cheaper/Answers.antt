-- The best so far stays where no walk to the target costs less, and else the cheaper of both is the best.
use Rattle.std.proofs.lemmas.Bool.{OnFalse_at}
use Rattle.overlay_query.proofs.Finding.{NoneBetween-query}
use Rattle.overlay_query.proofs.Targets.{IsBetter-behind, IsBetter-none, IsBetter-lesser}
use Rattle.overlay_query.proofs.nearest.cheaper.Goals as goal

pub returns-then-not-reached-clause-better : goal.returns-then-not-reached-clause-better
returns-then-not-reached-clause-better g c =
    IsBetter-behind g.met.C.Cost.laws _ _ _ _ c.args.target c.args.best c.requires.best (OnFalse_at c.if-not-reached.true c.in_ok-reached.ensures.behind)

pub returns-in-None-clause-better : goal.returns-in-None-clause-better
returns-in-None-clause-better g c =
    IsBetter-none g.met.C.Cost.laws _ _ _ _ c.args.target c.args.best c.requires.best (NoneBetween-query g.met.C.Cost.laws _ _ _ _ _ c.requires.query c.args.target c.requires.target (rw c.in-None.is at c.cost.ensures))

pub returns-in-Some-clause-better : goal.returns-in-Some-clause-better
returns-in-Some-clause-better g c =
    let with = c.cost_with-cost.ensures in
    IsBetter-lesser g.met.C.Cost.laws _ _ _ _ c.args.target c.args.best c.cost_with-cost.result c.lesser.result c.requires.best c.requires.target with.walk with.least c.lesser.ensures
