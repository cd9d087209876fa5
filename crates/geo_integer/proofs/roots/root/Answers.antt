-- A guess that is judged good and std's root both have the bounds that only the root has.
use Rattle.std.proofs.Common.{◌∙◌}
use Rattle.geo_integer.proofs.RootLemmas.{IsRoot-same, IsRoot-root_of}
use Rattle.geo_integer.proofs.roots.root.Goals as goal

pub returns-then-is_root : goal.returns-then-is_root
returns-then-is_root c =
    c.from.ensures
    ∙ IsRoot-same c.args.n _ _ (c.is_root.ensures.0 c.if-is_root.true) (IsRoot-root_of c.args.n)

pub returns-else-is_root : goal.returns-else-is_root
returns-else-is_root c =
    IsRoot-same c.args.n _ _ (c.isqrt.ensures.square_le, c.isqrt.ensures.next_square_gt) (IsRoot-root_of c.args.n)
