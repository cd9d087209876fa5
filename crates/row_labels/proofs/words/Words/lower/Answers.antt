-- One word is written, a rank.
use Rattle.row_labels.proofs.Wording.{list-ranked}
use Rattle.row_labels.proofs.words.Words.lower.Goals as goal

pub returns-clause-yes : goal.returns-clause-yes
returns-clause-yes g c =
    list-ranked g.C.Cost.unranked c.self.inside.others.items c.self.inside.words.items c.args.i c.args.rank c.args.self.now (g.met.C.Cost.ranks.short (g.C.Cost.unranked c.args.rank) c.args.rank c.requires.rank) c.self.view_is
