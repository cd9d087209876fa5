-- Words of no label.
use Rattle.label_search.proofs.Wording.{restarted}
use Rattle.label_search.proofs.label_list.LabelList.restart.Goals as goal

pub returns : goal.returns
returns g c = restarted g.C.Cost.unranked c.args.count c.clear.new.self.len c.clear.new.self.items c.resize-2.new.self.items c.if-len-count.self-inside.costs.items c.clear.ensures.items c.clear.ensures.len c.in_ok-resize-2.ensures.items
