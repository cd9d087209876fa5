-- Each step forgets the place of one slot's vertex, and after the last none is left.
use Rattle.std.proofs.Common.{◌≡◌, ◌<◌, ◌≤◌, length, get_or, rules}
use Rattle.search_labels.proofs.Slotted.{AreLeft-start, AreLeft-next, AreLeft-end}
use Rattle.search_labels.proofs.slots.clear_places.Goals as goal

pub loop-slot-init : goal.loop-slot-init
loop-slot-init g c = AreLeft-start c.args.made.now c.args.table.now c.requires

pub loop-slot-preserved : goal.loop-slot-preserved
loop-slot-preserved g c =
    let lt : c.loop-slot.slot-index < length c.args.made.now = search rules in
    let is : c.slot-item.result ≡ get_or c.args.made.now c.loop-slot.slot-index c.slot-item.result = search rules in
    let within : c.slot-item.result.vertex < length c.loop-slot.table = search rules in
    AreLeft-next c.args.made.now (length c.args.table.now) c.loop-slot.table c.loop-slot.slot-index c.loop-slot.invariant c.slot-item.result lt is within

pub returns : goal.returns
returns g c =
    let over : length c.args.made.now ≤ c.loop-slot.slot-index = search rules in
    AreLeft-end c.args.made.now (length c.args.table.now) c.loop-slot.table c.loop-slot.slot-index over c.loop-slot.invariant
