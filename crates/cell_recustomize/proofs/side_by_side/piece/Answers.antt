-- A piece ends where the next begins.
use Rattle.cell_customize.specs.Cuts.{cut_rises, cut_within}
use Rattle.cell_recustomize.proofs.side_by_side.piece.Goals as goal

pub cliques_of-requires-clause-from : goal.cliques_of-requires-clause-from
cliques_of-requires-clause-from g c = rw (c.cut-from.ensures, c.cut-to.ensures) (cut_rises c.count-count.result c.args.place)

pub cliques_of-requires-clause-to : goal.cliques_of-requires-clause-to
cliques_of-requires-clause-to g c = rw (c.cut-to.ensures, c.count-count.ensures) (cut_within _ c.args.place c.requires.place)

pub returns : goal.returns
returns g c = rw (c.cut-from.ensures, c.cut-to.ensures, c.count-count.ensures) at c.cliques_of.ensures
