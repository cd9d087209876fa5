-- The words that come are those of no cost.
use Rattle.std.proofs.Common.{◌+◌, ap}
use Rattle.row_labels.proofs.Wording.{list-extended}
use Rattle.row_labels.proofs.words.Words.extend.Goals as goal

pub returns-clause-extended : goal.returns-clause-extended
returns-clause-extended g c =
    list-extended g.C.Cost.unranked c.resize.result c.self.inside.others.items c.self.inside.words.items c.resize.new.self.items c.args.self.now _ c.self.inside.words.len c.args.count c.self.inside.words.ok.0
    (ap (λ n. n + c.args.count) c.len.ensures) c.resize.ensures.items c.self.invariant.few c.self.view_is
