-- Parts of a frame make a lawful cut, whose least costs inside are the cliques'.
use Rattle.cell_frame.proofs.Spacing.{IsLawful-parts}
use Rattle.cell_frame.proofs.over.Over.known.Goals as goal

pub returns-clause-lawful : goal.returns-clause-lawful
returns-clause-lawful g c =
    let s = c.args.self.now in
    let f = s.frame.now in
    let p = c.known-2.ensures in
    IsLawful-parts g.met.C.Cost.laws f c.known.ensures s.weights.now c.requires.weights (g.P.Parts.within s.parts.now f) (g.P.Parts.level s.parts.now f) p.parts s.cliques.now (g.P.Parts.top s.parts.now f) c.requires.cliques p.high p.most
