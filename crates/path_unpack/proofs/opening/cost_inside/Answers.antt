-- The clique has a row for the entry, and in it a place for the exit.
use Rattle.path_unpack.proofs.Inside.{row_has, row_within, row_least}
use Rattle.path_unpack.proofs.opening.cost_inside.Goals as goal

pub row-requires-clause-has : goal.row-requires-clause-has
row-requires-clause-has g c = row_has g.C.Cost.ops c.args.over.now.frame.now c.args.over.now.weights.now c.args.over.now.cliques.now c.args.over.now.parts.now.cell c.requires.cell c.requires.exact c.args.entry c.in-Some.from c.in-Some.ensures.some

pub get-requires : goal.get-requires
get-requires g c = row_within g.C.Cost.ops c.args.over.now.frame.now c.args.over.now.weights.now c.args.over.now.cliques.now c.args.over.now.parts.now.cell c.requires.cell c.requires.exact c.args.entry c.in-Some.from c.in-Some.ensures.some c.row.result c.row.ensures c.in-Some-exit_place.to c.args.exit c.in-Some-exit_place.ensures

pub returns : goal.returns
returns g c = row_least g.C.Cost.ops c.args.over.now.frame.now c.args.over.now.weights.now c.args.over.now.cliques.now c.args.over.now.parts.now.cell c.requires.cell c.requires.exact c.args.entry c.in-Some.from c.in-Some.ensures.some c.row.result c.row.ensures c.in-Some-exit_place.to c.args.exit c.in-Some-exit_place.ensures c.get.result c.get.ensures
