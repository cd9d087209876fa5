use Rattle.std.proofs.Common.{arith}
use Rattle.std.proofs.lemmas.Int.{to_z-of_z}
use Rattle.list_lemmas.proofs.Between.{between-part}
use Rattle.geo_integer.proofs.nearest_place.part.Goals as goal

pub returns-clause-between : goal.returns-clause-between
returns-clause-between c =
    let between = between-part c.args.difference c.args.at c.requires.at in
    grind (arith, to_z-of_z)
