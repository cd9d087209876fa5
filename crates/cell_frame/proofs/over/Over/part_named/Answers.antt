-- The name of a row is that of the part.
use Rattle.std.proofs.Common.{◌≤◌, arith, sym, subst}
use Rattle.cell_frame.specs.Borders.{IsCell}
use Rattle.cell_frame.proofs.Levels.{IsCell-of}
use Rattle.cell_frame.proofs.Stepping.{named_alone, named_whole}
use Rattle.cell_frame.proofs.over.Over.part_named.Goals as goal

pub returns-then-level-eq0-clause-none : goal.returns-then-level-eq0-clause-none
returns-then-level-eq0-clause-none g c =
    let s = c.args.self.now in
    named_alone s.frame.now (g.P.Parts.level s.parts.now s.frame.now) c.args.v c.args.row c.requires.row c.if-level-eq0.true

pub returns-clause-some : goal.returns-clause-some
returns-clause-some g c =
    let s = c.args.self.now in
    sym (named_whole s.frame.now (g.P.Parts.level s.parts.now s.frame.now) c.args.v c.args.row c.requires.row c.if-level-eq0.false).0

pub returns-clause-whole : goal.returns-clause-whole
returns-clause-whole g c =
    let s = c.args.self.now in
    (named_whole s.frame.now (g.P.Parts.level s.parts.now s.frame.now) c.args.v c.args.row c.requires.row c.if-level-eq0.false).1

pub returns-clause-cell : goal.returns-clause-cell
returns-clause-cell g c =
    let s = c.args.self.now in
    let f = s.frame.now in
    let level = g.P.Parts.level s.parts.now f in
    let part = named_whole f level c.args.v c.args.row c.requires.row c.if-level-eq0.false in
    let framed = c.known.ensures in
    let p = c.known-2.ensures in
    let high : level c.args.v ≤ g.P.Parts.top s.parts.now f = p.high c.args.v in
    subst (IsCell f.cells) part.0 (IsCell-of f.cells framed.kept c.args.v (level c.args.v) (omega (arith, framed.vertices, c.requires.vertex)) part.1 (omega (arith, high, p.most)))
