-- There are as many labels as words.
use Rattle.std.proofs.Common.{◌∙◌, ap, length, sym}
use Rattle.label_search.proofs.Wording.{length-labels}
use Rattle.label_search.proofs.label_list.LabelList.len.Goals as goal

pub returns : goal.returns
returns g c = c.len.ensures ∙ c.self.inside.words.ok.0 ∙ sym (length-labels g.C.Cost.unranked c.self.inside.words.items c.self.inside.costs.items) ∙ ap length c.self.view_is
