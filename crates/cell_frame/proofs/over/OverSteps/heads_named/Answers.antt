-- The row out of a vertex leads to the exits of its part.
use Rattle.std.proofs.Common.{sym, ◌∙◌, ap}
use Rattle.cell_frame.specs.declared.cells.Cell.{Cell}
use Rattle.cell_frame.specs.Borders.{at_cell}
use Rattle.cell_frame.proofs.Stepping.{heads_alone, heads_whole}
use Rattle.cell_frame.proofs.over.OverSteps.heads_named.Goals as goal

pub returns-in-None : goal.returns-in-None
returns-in-None g c = let s = c.args.self.now in sym (heads_alone s.frame.now (g.P.Parts.level s.parts.now s.frame.now) c.args.v c.in-None.ensures.none)

pub returns-in-Some : goal.returns-in-Some
returns-in-Some g c =
    let s = c.args.self.now in
    let f = s.frame.now in
    c.exits.ensures ∙ ap (λ (k : Cell). at_cell f.exits k) c.in-Some.ensures.some ∙ sym (heads_whole f (g.P.Parts.level s.parts.now f) c.args.v c.in-Some.ensures.whole)
