use Rattle.std.proofs.Common.{◌≡◌, ◌<◌, ◌/◌, sym, length, arith}
use Rattle.line_simplify.proofs.Runs.{push-added, push-stays, read-is, set-added, set-stays}
use Rattle.line_simplify.proofs.blocks.add.Goals as goal

-- the first of 16
pub returns-in_ok-push-clause-stays : goal.returns-in_ok-push-clause-stays
returns-in_ok-push-clause-stays c = λ k p has. push-stays c.args.extents.now.items _ c.args.extent k p c.in_ok-push.ensures.items has

pub returns-in_ok-push-clause-added : goal.returns-in_ok-push-clause-added
returns-in_ok-push-clause-added c = λ p has.
    let n : length c.args.extents.now.items ≡ c.args.i / 16 = omega arith in
    push-added c.args.extents.now.items _ c.args.extent (c.args.i / 16) p c.in_ok-push.ensures.items n has

-- another one
pub returns-else-i-eq0-clause-stays : goal.returns-else-i-eq0-clause-stays
returns-else-i-eq0-clause-stays c = λ k p has.
    let lt : c.args.i / 16 < length c.args.extents.now.items = omega arith in
    set-stays c.args.extents.now.items (c.args.i / 16) k c.index-last.result.now c.joined.result p (read-is c.args.extents.now.items (c.args.i / 16) _ c.index-last.result.now lt (sym c.index-last.ensures)) (c.joined.ensures.first p) has

pub returns-else-i-eq0-clause-added : goal.returns-else-i-eq0-clause-added
returns-else-i-eq0-clause-added c = λ p has.
    let lt : c.args.i / 16 < length c.args.extents.now.items = omega arith in
    set-added c.args.extents.now.items (c.args.i / 16) c.joined.result p lt (c.joined.ensures.second p has)
