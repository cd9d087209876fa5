use Rattle.std.proofs.Common.{◌+◌, ◌-◌, arith}
use Rattle.std.specs.List.{flat_map}
use Rattle.town_text.specs.Town.{inner_of, restriction_line}
use Rattle.town_text.proofs.Ranges.{piece-put}
use Rattle.town_text.proofs.restrictions.push_restrictions.Goals as goal

pub loop-row-preserved : goal.loop-row-preserved
loop-row-preserved c =
    piece-put (λ y. flat_map (λ x. restriction_line c.args.n x y) (inner_of c.args.n)) _ _ _ 1 (c.loop-row.row - 1) c.loop-row.row (c.loop-row.row + 1 - 1) c.loop-row.invariant c.in_ok-push_restrictions_in.ensures (omega arith) (omega arith)
