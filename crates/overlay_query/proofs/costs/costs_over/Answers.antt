-- A query's space can be searched, and each turn answers one target more.
use Rattle.std.proofs.Common.{◌∷◌, [], length-append, arith, sym}
use Rattle.overlay_query.specs.Answers.{IsLeastCost}
use Rattle.overlay_query.proofs.Finding.{AreStarts-query}
use Rattle.overlay_query.proofs.Turns.{one_more}
use Rattle.overlay_query.proofs.costs.costs_over.Goals as goal

pub restart-requires-clause-starts : goal.restart-requires-clause-starts
restart-requires-clause-starts g c = AreStarts-query g.met.C.Cost.laws _ _ _ _ _ c.requires.query

pub cost_to-requires-clause-target : goal.cost_to-requires-clause-target
cost_to-requires-clause-target g c = c.requires.targets c.target-item.result (c.loop-target.target-index, c.loop-target-test.true, sym c.target-item.is)

pub loop-target-preserved : goal.loop-target-preserved
loop-target-preserved g c =
    let n = c.loop-target.invariant.one_each in
    record {
      under_way = c.in_ok-cost.ensures.under_way;
      one_each = rw c.in_ok-push.ensures.items (omega (arith, length-append c.loop-target.costs.items (c.in_ok-cost.cost ∷ []), n));
      least = rw c.in_ok-push.ensures.items (one_more (IsLeastCost g.C.Cost.ops c.args.over.now.frame.now c.args.over.now.weights.now c.args.starts.now) c.args.targets.now c.loop-target.costs.items c.loop-target.target-index c.target-item.result c.in_ok-cost.cost n c.loop-target-test.true c.target-item.is c.in_ok-cost.ensures.cost c.loop-target.invariant.least);
    }
