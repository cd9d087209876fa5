use Rattle.cost_lists.proofs.Placing.{list-extended}
use Rattle.cost_lists.proofs.lists.CostList.extend_from_words.Goals as goal

pub returns-clause-appended : goal.returns-clause-appended
returns-clause-appended g c =
    list-extended g.C.Narrow.widened c.extend_from_slice.result c.self.inside.others.items c.self.inside.words.items c.args.words.now _ c.args.self.now c.extend_from_slice.ensures.items c.self.invariant.few c.requires.own c.self.view_is
