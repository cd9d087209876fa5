use Rattle.std.proofs.Common.{◌≡◌, ◌+◌, ◌<◌, length, refl, subst, arith}
use Rattle.list_lemmas.proofs.Gets.{get_part}
use Rattle.line_simplify.specs.Blocks.{IsCovered}
use Rattle.line_simplify.specs.Finds.{AreWithin}
use Rattle.line_simplify.proofs.Alike.{split-is}
use Rattle.line_simplify.proofs.Repeats.{part-within, within-part}
use Rattle.line_simplify.proofs.simplifying.Search.split.Goals as goal

-- the points between two have the numbers behind the first
pub farthest-found-requires-clause-covered : goal.farthest-found-requires-clause-covered
farthest-found-requires-clause-covered c = λ i p at.
    let points = c.args.points.now in
    let inside : c.args.to < length points = c.requires.inside in
    let there = get_part points (c.args.from + 1) c.args.to i p (omega (arith, inside)) at in
    let whole : 0 + (c.args.from + 1 + i) ≡ c.args.from + 1 + i = omega arith in
    subst (λ n. IsCovered c.args.self.now.runs n p) whole (c.requires.knows.runs (c.args.from + 1 + i) p there.1)

-- none of them lies farther off than what is known of the chord
pub farthest-found-requires-clause-reach : goal.farthest-found-requires-clause-reach
farthest-found-requires-clause-reach c =
    let points = c.args.points.now in
    let inside : c.args.to < length points = c.requires.inside in
    within-part points c.args.from c.args.to c.chord_of-line.result c.most.result (omega (arith, inside)) (c.most.ensures points c.args.from c.requires.knows.finds)

pub returns-clause-split : goal.returns-clause-split
returns-clause-split c =
    split-is c.args.self.now.limit c.args.points.now c.args.from c.args.to c.farthest-found.result.at c.chord_of-line.result.from c.chord_of-line.result.to
    c.requires.ordered c.requires.inside c.chord_of-line.ensures.from c.chord_of-line.ensures.to c.farthest-found.ensures.within c.farthest-found.ensures.value

pub returns-clause-knows : goal.returns-clause-knows
returns-clause-knows c =
    let points = c.args.points.now in
    let from = c.args.from in
    let to = c.args.to in
    let inside : to < length points = c.requires.inside in
    let within : AreWithin points from to c.chord_of-line.result c.farthest-found.result.most = part-within points from to c.chord_of-line.result c.farthest-found.result.most (omega (arith, inside)) c.farthest-found.ensures.most in
    let split = split-is c.args.self.now.limit points from to c.farthest-found.result.at c.chord_of-line.result.from c.chord_of-line.result.to
    c.requires.ordered inside c.chord_of-line.ensures.from c.chord_of-line.ensures.to c.farthest-found.ensures.within c.farthest-found.ensures.value in
    record {
      limited = refl;
      runs = c.requires.knows.runs;
      finds = c.keep.ensures points from c.requires.knows.finds within;
      parts = c.keep-2.ensures c.args.self.now.limit points c.requires.knows.parts split;
    }
