-- Each arc between cells is an arc, and its cost stands behind the others.
use Rattle.std.proofs.Common.{◌<◌, length, arith, ◌∙◌}
use Rattle.std.proofs.lemmas.Option.{slice_get-get_or}
use Rattle.cell_frame.proofs.Costing.{AreCrossings-push}
use Rattle.cell_frame.proofs.cliques.crossing_costs.Goals as goal

pub crossing_cost-requires-clause-arc : goal.crossing_cost-requires-clause-arc
crossing_cost-requires-clause-arc g c =
    let f = c.args.frame.now in
    let within : c.loop-i.i < length c.crossings-crossings.result.now = omega (arith, c.loop-i-test.true) in
    let lt : c.loop-i.i < length f.crossings = rw c.crossings-crossings.ensures at within in
    rw c.crossings-crossings.ensures (c.known.ensures.arcs c.loop-i.i _ (slice_get-get_or f.crossings c.loop-i.i _ lt))

pub loop-i-preserved : goal.loop-i-preserved
loop-i-preserved g c =
    let f = c.args.frame.now in
    let within : c.loop-i.i < length c.crossings-crossings.result.now = omega (arith, c.loop-i-test.true) in
    let lt : c.loop-i.i < length f.crossings = rw c.crossings-crossings.ensures at within in
    rw c.in_ok-push.ensures.pushed (AreCrossings-push g.C.Cost.ops f c.args.weights.now c.loop-i.i _ _ _ (slice_get-get_or f.crossings c.loop-i.i _ lt) (rw c.crossings-crossings.ensures at c.crossing_cost.ensures) c.loop-i.invariant)
