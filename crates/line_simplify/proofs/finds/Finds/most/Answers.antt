use Rattle.std.proofs.Common.{◌≡◌, ◌<◌, length, subst, sym, arith}
use Rattle.line_simplify.specs.Finds.{AreWithin}
use Rattle.line_simplify.proofs.Bounding.{offset-most}
use Rattle.line_simplify.proofs.Repeats.{within-same}
use Rattle.line_simplify.proofs.Runs.{read-is}
use Rattle.line_simplify.proofs.finds.Finds.most.Goals as goal

pub returns-then-len-eq0 : goal.returns-then-len-eq0
returns-then-len-eq0 c = λ points from h i p low high at. offset-most c.args.line p

-- the chord comes again
pub returns-then-are_same : goal.returns-then-are_same
returns-then-are_same c = λ points from h.
    let find = c.index-find.result.now in
    let lt : c.place_of.result < length c.args.self.now.finds.items = omega (arith, c.place_of.ensures) in
    let there = h c.place_of.result find (read-is c.args.self.now.finds.items c.place_of.result find find lt (sym c.index-find.ensures)) in
    let end : find.end ≡ c.args.end = c.if-find-end.true in
    subst (λ n. AreWithin points from n c.args.line find.most) end
    (within-same points from find.end find.line c.args.line find.most (c.are_same.ensures.from c.if-are_same.true) (c.are_same.ensures.to c.if-are_same.true) there)

pub returns-else-find-end : goal.returns-else-find-end
returns-else-find-end c = λ points from h i p low high at. offset-most c.args.line p
