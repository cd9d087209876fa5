-- The cliques of all cells, one behind another, are an exact level.
use Rattle.cell_customize.specs.Piling.{IsExactLevel-made}
use Rattle.cell_recustomize.proofs.recustomizing.level_cliques.Goals as goal

pub returns : goal.returns
returns g c =
    let all = rw c.count-count.ensures at c.in_ok-all.ensures in
    rw c.into_level.ensures (IsExactLevel-made g.C.Cost.ops c.args.frame.now c.args.weights.now c.args.level c.in_ok-all.all all)
