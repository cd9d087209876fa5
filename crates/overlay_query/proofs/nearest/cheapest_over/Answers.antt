-- A query's space can be searched, each turn finds the best of one target more, and the best of all is the answer.
use Rattle.std.proofs.Common.{sym}
use Rattle.list_lemmas.proofs.Gets.{get_is}
use Rattle.overlay_query.proofs.Finding.{AreStarts-query}
use Rattle.overlay_query.proofs.Targets.{IsBest-priced, IsBest-more, none_of_all, IsPackedCheapest-best}
use Rattle.overlay_query.proofs.nearest.cheapest_over.Goals as goal

pub restart-requires-clause-starts : goal.restart-requires-clause-starts
restart-requires-clause-starts g c = AreStarts-query g.met.C.Cost.laws _ _ _ _ _ c.requires.query

pub cheaper-requires-clause-target : goal.cheaper-requires-clause-target
cheaper-requires-clause-target g c = c.requires.targets c.target-item.result (c.loop-target.target-index, c.loop-target-test.true, sym c.target-item.is)

pub cheaper-requires-clause-best : goal.cheaper-requires-clause-best
cheaper-requires-clause-best g c = IsBest-priced g.met.C.Cost.laws c.args.over.now.frame.now c.args.over.now.weights.now c.args.over.now.parts.now.vertices.items c.args.starts.now c.args.targets.now c.loop-target.target-index c.loop-target.best c.loop-target.invariant.best

pub loop-target-preserved : goal.loop-target-preserved
loop-target-preserved g c = record {
  under_way = c.in_ok-best-2.ensures.under_way;
  best = IsBest-more g.met.C.Cost.laws c.args.over.now.frame.now c.args.over.now.weights.now c.args.over.now.parts.now.vertices.items c.args.starts.now c.args.targets.now c.loop-target.target-index c.target-item.result (get_is c.args.targets.now c.loop-target.target-index c.target-item.result c.loop-target-test.true (sym c.target-item.is))
      c.loop-target.best c.in_ok-best-2.best c.loop-target.invariant.best c.in_ok-best-2.ensures.better;
}

pub returns-in-None : goal.returns-in-None
returns-in-None g c = none_of_all g.met.C.Cost.laws c.args.over.now.frame.now c.args.over.now.weights.now c.args.over.now.parts.now.vertices.items c.args.starts.now c.args.targets.now c.loop-target.target-index c.loop-target-test.false (rw c.in-None.is at c.loop-target.invariant.best)

pub returns-in_ok-found-in-Some : goal.returns-in_ok-found-in-Some
returns-in_ok-found-in-Some g c =
    IsPackedCheapest-best g.met.C.Cost.laws c.args.over.now.frame.now c.args.over.now.weights.now c.args.over.now.parts.now.vertices.items c.args.starts.now c.args.targets.now c.loop-target.target-index c.loop-target-test.false c.in-Some.best c.in_ok-found-in-Some.found (rw c.in-Some.is at c.loop-target.invariant.best) c.in_ok-found-in-Some.ensures.found
