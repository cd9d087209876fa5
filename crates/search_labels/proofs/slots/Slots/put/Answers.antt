-- A slot that is made is written where the table says.
use Rattle.std.proofs.Common.{◌≡◌, ◌<◌, ◌^◌, length, refl, ◌∙◌, arith}
use Rattle.search_labels.specs.declared.labels.Slot.TheVariants.{Labelled}
use Rattle.search_labels.proofs.Slotted.{place_is, slot_in-labelled, slot_at-written, IsSlotted-written}
use Rattle.search_labels.proofs.slots.Slots.put.Goals as goal

pub invariant_of-self : goal.invariant_of-self
invariant_of-self g c =
    let made = c.self.inside.made.items in
    let at = place_is c.self.inside.table.items _ c.place_in-place.result c.args.v c.as_slice.ensures.value c.place_in-place.ensures in
    let count : c.len.result ≡ length made = c.len.ensures ∙ c.self.inside.made.ok.0 in
    let lt = c.if-place-len.true in
    let within : c.place_in-place.result < length made = omega arith in
    IsSlotted-written c.self.inside.table.items made c.self.invariant (record { vertex = c.args.v; node = c.args.label.node; cost = c.args.label.cost }) c.place_in-place.result c.args.v at refl within

pub returns-then-place-len-clause-put : goal.returns-then-place-len-clause-put
returns-then-place-len-clause-put g c =
    let made = c.self.inside.made.items in
    let at = place_is c.self.inside.table.items _ c.place_in-place.result c.args.v c.as_slice.ensures.value c.place_in-place.ensures in
    let count : c.len.result ≡ length made = c.len.ensures ∙ c.self.inside.made.ok.0 in
    let lt = c.if-place-len.true in
    let within : c.place_in-place.result < length made = omega arith in
    let few = c.if-label.false in
    let named : c.args.label.node < 2 ^ 31 = omega arith in
    slot_at-written c.self.inside.table.items made c.self.invariant (record { vertex = c.args.v; node = c.args.label.node; cost = c.args.label.cost }) c.place_in-place.result c.args.v at refl within
    c.args.self.now (Labelled c.args.label.node c.args.label.cost) c.self.view_is (slot_in-labelled (record { vertex = c.args.v; node = c.args.label.node; cost = c.args.label.cost }) named)
