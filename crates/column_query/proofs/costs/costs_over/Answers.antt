-- A row's space can be searched, and each turn answers one target more.
use Rattle.std.proofs.Common.{◌∷◌, [], length-append, arith, sym}
use Rattle.overlay_query.specs.Answers.{IsLeastCost}
use Rattle.column_query.specs.declared.columns.TargetPoint.{TargetPoint}
use Rattle.column_query.proofs.Turns.{one_more}
use Rattle.column_query.proofs.Ways.{AreStarts-row}
use Rattle.column_query.proofs.costs.costs_over.Goals as goal

pub restart-requires-clause-starts : goal.restart-requires-clause-starts
restart-requires-clause-starts g c = AreStarts-row g.met.C.Cost.laws _ _ _ _ _ c.requires.ready

pub cost_to-requires-clause-below : goal.cost_to-requires-clause-below
cost_to-requires-clause-below g c = (c.requires.targets c.point-item.result (c.loop-point.point-index, c.loop-point-test.true, sym c.point-item.is)).0

pub cost_to-requires-clause-unit : goal.cost_to-requires-clause-unit
cost_to-requires-clause-unit g c = (c.requires.targets c.point-item.result (c.loop-point.point-index, c.loop-point-test.true, sym c.point-item.is)).1

pub cost_to-requires-clause-columns : goal.cost_to-requires-clause-columns
cost_to-requires-clause-columns g c = c.requires.columns c.point-item.result (c.loop-point.point-index, c.loop-point-test.true, sym c.point-item.is)

pub loop-point-preserved : goal.loop-point-preserved
loop-point-preserved g c =
    let n = c.loop-point.invariant.one_each in
    record {
      under_way = c.in_ok-cost.ensures.under_way;
      one_each = rw c.in_ok-push.ensures.items (omega (arith, length-append c.loop-point.costs.items (c.in_ok-cost.cost ∷ []), n));
      least = rw c.in_ok-push.ensures.items (one_more (λ (t : TargetPoint _). IsLeastCost g.C.Cost.ops c.args.over.now.frame.now c.args.over.now.weights.now c.args.starts.now t.target) c.args.targets.now c.loop-point.costs.items c.loop-point.point-index c.point-item.result c.in_ok-cost.cost n c.loop-point-test.true c.point-item.is c.in_ok-cost.ensures.cost c.loop-point.invariant.least);
    }
