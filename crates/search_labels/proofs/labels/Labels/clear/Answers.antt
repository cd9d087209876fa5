-- A slot that is blank has no label, and isn't settled.
use Rattle.std.proofs.Common.{ap}
use Rattle.search_labels.specs.Labelled.{label_in, settled_in}
use Rattle.search_labels.proofs.Wording.{blank_read}
use Rattle.search_labels.proofs.labels.Labels.clear.Goals as goal

pub returns-clause-label : goal.returns-clause-label
returns-clause-label g c = λ v. ap label_in (blank_read g.C.Cost.unranked c.clear-2.new.self.items c.clear.new.self v (c.clear.ensures v))

pub returns-clause-settled : goal.returns-clause-settled
returns-clause-settled g c = λ v. ap settled_in (blank_read g.C.Cost.unranked c.clear-2.new.self.items c.clear.new.self v (c.clear.ensures v))
