-- In 128 bits std's root is the one root that there is.
use Rattle.geo_integer.proofs.RootLemmas.{IsRoot-same, IsRoot-root_of}
use Rattle.geo_integer.proofs.roots.square_root.Goals as goal

pub returns-in-Err : goal.returns-in-Err
returns-in-Err c =
    IsRoot-same c.args.n _ _ (c.isqrt.ensures.square_le, c.isqrt.ensures.next_square_gt) (IsRoot-root_of c.args.n)
