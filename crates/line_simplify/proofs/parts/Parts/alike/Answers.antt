use Rattle.std.proofs.Common.{◌<◌, length, refl, sym, arith}
use Rattle.line_simplify.proofs.Alike.{split-again}
use Rattle.line_simplify.proofs.Runs.{read-is}
use Rattle.line_simplify.proofs.parts.Parts.alike.Goals as goal

-- the part that is remembered has points at the same places
pub returns-then-lie_alike : goal.returns-then-lie_alike
returns-then-lie_alike c = λ limit h.
    let points = c.args.points.now in
    let part = c.index-part.result.now in
    let earlier = c.chord_of.ensures in
    let line = c.chord_of-line.ensures in
    let lt : c.place_of.result < length c.args.self.now.parts.items = omega (arith, c.place_of.ensures) in
    let there = h c.place_of.result part (read-is c.args.self.now.parts.items c.place_of.result part part lt (sym c.index-part.ensures)) in
    split-again limit points part.from part.to c.args.from c.args.to part.split c.chord_of.result.from c.chord_of.result.to c.chord_of-line.result.from c.chord_of-line.result.to
    (c.if-not-is_earlier.ensures.ordered refl) c.requires.ordered (c.if-not-is_earlier.ensures.count refl) c.requires.inside
    earlier.from earlier.to line.from line.to (c.if-not-are_same.ensures.from refl) (c.if-not-are_same.ensures.to refl) (c.if-lie_alike.ensures refl) there
