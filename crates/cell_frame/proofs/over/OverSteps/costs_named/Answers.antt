-- The row of the cliques at the place of the vertex among the entries has what its places cost.
use Rattle.std.proofs.Common.{◌≡◌, Some, subst}
use Rattle.std.specs.List.{Contains, slice_get}
use Rattle.cell_frame.specs.Borders.{at_cell}
use Rattle.cell_frame.specs.declared.cells.Cell.{Cell}
use Rattle.cell_frame.proofs.Stepping.{costs_alone, costs_none, costs_row, named_cell, row_costs}
use Rattle.cell_frame.proofs.over.OverSteps.costs_named.Goals as goal

pub returns-in_default-clause-all : goal.returns-in_default-clause-all
returns-in_default-clause-all g c = λ j cost h.
    let s = c.args.self.now in
    let f = s.frame.now in
    let level = g.P.Parts.level s.parts.now f in
    let p = c.known-2.ensures in
    absurd (costs_alone g.met.C.Cost.laws f c.known.ensures s.weights.now c.requires.ready.0 (g.P.Parts.within s.parts.now f) level p.parts s.cliques.now (g.P.Parts.top s.parts.now f) c.requires.ready.1 p.high p.most c.args.v c.in_default.ensures.none j cost h)

pub returns-in_default-entry_at-clause-all : goal.returns-in_default-entry_at-clause-all
returns-in_default-entry_at-clause-all g c = λ j cost h.
    let s = c.args.self.now in
    let f = s.frame.now in
    let level = g.P.Parts.level s.parts.now f in
    let p = c.known-2.ensures in
    let part = c.in-Some.ensures in
    absurd (costs_none g.met.C.Cost.laws f c.known.ensures s.weights.now c.requires.ready.0 (g.P.Parts.within s.parts.now f) level p.parts s.cliques.now (g.P.Parts.top s.parts.now f) c.requires.ready.1 p.high p.most c.args.v c.requires.vertex part.whole c.in-Some.part part.some (subst (λ (k : Cell). ¬ Contains (at_cell f.entries k) c.args.v) (named_cell f.cells level c.args.v c.in-Some.part part.some) c.in_default-entry_at.ensures.none) j cost h)

pub returns-clause-some : goal.returns-clause-some
returns-clause-some g c =
    let s = c.args.self.now in
    let f = s.frame.now in
    let level = g.P.Parts.level s.parts.now f in
    let p = c.known-2.ensures in
    let part = c.in-Some.ensures in
    costs_row g.met.C.Cost.laws f c.known.ensures s.weights.now c.requires.ready.0 (g.P.Parts.within s.parts.now f) level p.parts s.cliques.now (g.P.Parts.top s.parts.now f) c.requires.ready.1 p.high p.most c.args.v c.requires.vertex part.whole c.in-Some.part part.some c.in-Some-entry_at.i (subst (λ (k : Cell). slice_get (at_cell f.entries k) c.in-Some-entry_at.i ≡ Some c.args.v) (named_cell f.cells level c.args.v c.in-Some.part part.some) c.in-Some-entry_at.ensures.some) c.row.result c.row.ensures c.if-not-within.ensures.yes

pub returns-clause-all : goal.returns-clause-all
returns-clause-all g c =
    let s = c.args.self.now in
    let f = s.frame.now in
    let level = g.P.Parts.level s.parts.now f in
    let p = c.known-2.ensures in
    let part = c.in-Some.ensures in
    row_costs g.met.C.Cost.laws f c.known.ensures s.weights.now c.requires.ready.0 (g.P.Parts.within s.parts.now f) level p.parts s.cliques.now (g.P.Parts.top s.parts.now f) c.requires.ready.1 p.high p.most c.args.v c.requires.vertex part.whole c.in-Some.part part.some c.in-Some-entry_at.i (subst (λ (k : Cell). slice_get (at_cell f.entries k) c.in-Some-entry_at.i ≡ Some c.args.v) (named_cell f.cells level c.args.v c.in-Some.part part.some) c.in-Some-entry_at.ensures.some) c.row.result c.row.ensures
