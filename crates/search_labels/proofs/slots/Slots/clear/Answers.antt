-- With no slots made all are untouched.
use Rattle.search_labels.proofs.Slotted.{blank_at}
use Rattle.search_labels.proofs.slots.Slots.clear.Goals as goal

pub returns : goal.returns
returns g c = blank_at _ c.clear.new.self.items c.clear.ensures.items
