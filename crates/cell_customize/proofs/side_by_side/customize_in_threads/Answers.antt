-- Each turn has an exact level more.
use Rattle.std.proofs.Common.{◌∷◌, [], length, length-append, ap, arith}
use Rattle.cell_customize.specs.Piling.{AreExact-push}
use Rattle.cell_customize.proofs.side_by_side.customize_in_threads.Goals as goal

pub loop-below-init : goal.loop-below-init
loop-below-init g c = record {
  count = ap length c.in_ok-cliques.ensures.rows;
  exact = c.in_ok-cliques.ensures.exact;
}

pub loop-below-preserved : goal.loop-below-preserved
loop-below-preserved g c = record {
  count = rw c.in_ok-push.ensures (omega (arith, length-append c.loop-below.cliques.rows (c.in_ok-level.level ∷ []), c.loop-below.invariant.count));
  exact = rw c.in_ok-push.ensures (AreExact-push g.C.Cost.ops c.args.frame.now c.args.weights.now c.loop-below.cliques c.loop-below.below c.in_ok-level.level c.loop-below.invariant.count c.loop-below.invariant.exact c.in_ok-level.ensures);
}
