-- A vertex begins its part exactly where it is listed among the entries.
use Rattle.std.proofs.Common.{inl, inr, arith, sym, subst}
use Rattle.list_lemmas.proofs.Gets.{Contains_get}
use Rattle.cell_frame.specs.declared.cells.Cell.{Cell}
use Rattle.cell_frame.specs.Borders.{IsEntry}
use Rattle.cell_frame.proofs.Stepping.{whole_from_level}
use Rattle.cell_frame.proofs.over.Over.begins_part.Goals as goal

pub returns-in-Some-clause-yes : goal.returns-in-Some-clause-yes
returns-in-Some-clause-yes g c =
    let s = c.args.self.now in
    let f = s.frame.now in
    let level = g.P.Parts.level s.parts.now f in
    let is = whole_from_level f.cells level c.args.v _ _ c.level-level.ensures c.cell.ensures.named in
    inr (subst (λ (k : Cell). IsEntry f.graph f.cells k c.args.v) is ((c.known.ensures.entries _ c.args.v c.cell.ensures.cell).0 (Contains_get _ _ _ c.in-Some.ensures.some)))

pub returns-in-None-clause-no : goal.returns-in-None-clause-no
returns-in-None-clause-no g c = λ h.
    let s = c.args.self.now in
    let f = s.frame.now in
    let level = g.P.Parts.level s.parts.now f in
    let is = whole_from_level f.cells level c.args.v _ _ c.level-level.ensures c.cell.ensures.named in
    elim h [
      | inl zero ↦ absurd (omega (arith, zero, c.level-level.ensures, c.if-level-eq0.false))
      | inr enter ↦ c.in-None.ensures.none ((c.known.ensures.entries _ c.args.v c.cell.ensures.cell).1 (subst (λ (k : Cell). IsEntry f.graph f.cells k c.args.v) (sym is) enter))
    ]
