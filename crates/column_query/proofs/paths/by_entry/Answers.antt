-- Both costs are small.
use Rattle.column_query.proofs.Small.{path_units, sum_units}
use Rattle.column_query.proofs.Ways.{AreStarts-row}
use Rattle.column_query.proofs.paths.by_entry.Goals as goal

pub plus-requires : goal.plus-requires
plus-requires g c =
    let laws = g.met.C.Cost.laws in
    sum_units laws c.in-Some-cost.path c.in-Some.more
    (path_units laws _ c.requires.ready.lawful.space _ (AreStarts-row laws _ _ _ _ _ c.requires.ready) c.args.entry c.requires.apart _ _ c.in-Some-cost.ensures.1)
    (rw c.in-Some.is at c.requires.small)
