-- Each turn has the clique of one cell more.
use Rattle.cell_customize.specs.Piling.{AreMade-push}
use Rattle.cell_customize.proofs.pieces.cliques_of.Goals as goal

pub loop-number-preserved : goal.loop-number-preserved
loop-number-preserved g c =
    let made = c.in_ok-clique.ensures in
    rw (c.in_ok-push.ensures.items, made.1, c.len.ensures) (AreMade-push g.C.Cost.ops c.args.frame.now c.args.weights.now c.args.level c.args.from c.loop-number.number c.loop-number.first.items c.loop-number.values made.0 made.2 c.loop-number.invariant)
