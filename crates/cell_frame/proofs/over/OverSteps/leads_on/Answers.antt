-- The arcs that are told beside an exit, which is no entry, are all that leads out of it.
use Rattle.cell_frame.proofs.Crossed.{if_some}
use Rattle.cell_frame.proofs.Leading.{LeadsBy-told}
use Rattle.cell_frame.proofs.over.OverSteps.leads_on.Goals as goal

pub returns : goal.returns
returns g c =
    let s = c.args.self.now in
    let f = s.frame.now in
    let p = c.known-2.ensures in
    if_some _ _ c.lead.result c.lead.ensures (λ arcs told. LeadsBy-told g.met.C.Cost.laws f c.known.ensures s.weights.now c.requires.ready.0 (g.P.Parts.within s.parts.now f) (g.P.Parts.level s.parts.now f) p.parts s.cliques.now (g.P.Parts.top s.parts.now f) c.requires.ready.1 p.high p.most c.args.row c.args.place c.args.v arcs c.requires.vertex c.if-level-eq0.false told)
