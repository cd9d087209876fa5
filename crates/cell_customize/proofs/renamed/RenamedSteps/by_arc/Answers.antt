-- The hop stands at the place.
use Rattle.std.proofs.Common.{rules, ◌<◌, length, sym, ◌∙◌}
use Rattle.list_lemmas.proofs.Gets.{get_is}
use Rattle.cell_customize.proofs.Ranges.{hop_within}
use Rattle.cell_customize.proofs.renamed.RenamedSteps.by_arc.Goals as goal

pub index-requires : goal.index-requires
index-requires g c =
    let l = c.args.self.now.local.now in
    let S = g.T.Steps.space c.args.self.now.steps.now in
    let lt : c.args.i < length l.hops.items = hop_within S l.numbers l.spans.items l.hops.items l.heads.items c.requires.ready.1 c.args.v c.args.i c.requires.named in
    search (rules, lt)

pub returns-clause-some : goal.returns-clause-some
returns-clause-some g c =
    let l = c.args.self.now.local.now in
    let S = g.T.Steps.space c.args.self.now.steps.now in
    (c.requires.named, get_is l.hops.items c.args.i c.index.result.now (hop_within S l.numbers l.spans.items l.hops.items l.heads.items c.requires.ready.1 c.args.v c.args.i c.requires.named) (sym c.index.ensures))

pub returns-clause-all : goal.returns-clause-all
returns-clause-all g c =
    let l = c.args.self.now.local.now in
    let S = g.T.Steps.space c.args.self.now.steps.now in
    λ w s h. sym (get_is l.hops.items c.args.i c.index.result.now (hop_within S l.numbers l.spans.items l.hops.items l.heads.items c.requires.ready.1 c.args.v c.args.i c.requires.named) (sym c.index.ensures)) ∙ h.1
