-- The pieces stand on the levels below.
use Rattle.cell_customize.specs.Ready.{IsReady}
use Rattle.cell_customize.proofs.side_by_side.level_in_threads.Goals as goal

pub pieces-requires-clause-ready : goal.pieces-requires-clause-ready
pieces-requires-clause-ready g c κs within =
    let ready : IsReady g.C.Cost.ops c.args.frame.now c.args.weights.now c.args.cliques.now c.args.level = record { above = c.requires.above; below = c.requires.below; small = c.requires.weights; exact = c.requires.cliques } in
    ready
