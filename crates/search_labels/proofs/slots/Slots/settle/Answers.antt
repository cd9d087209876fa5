-- The slot stands where the table says, and only one that has a label and isn't settled is written.
use Rattle.std.proofs.Common.{◌≡◌, ◌<◌, ◌+◌, ◌^◌, length, get_or, sym, ◌∙◌, ap, subst, arith}
use Rattle.search_labels.specs.Slotted.{slot_at}
use Rattle.search_labels.specs.declared.labels.Slot.TheVariants.{Settled}
use Rattle.search_labels.proofs.Slotted.{place_is, slot_in-labelled, slot_in-settling, slot_at-made, slot_at-written, vertex_read, IsSlotted-written}
use Rattle.search_labels.proofs.slots.Slots.settle.Goals as goal

pub invariant_of-self : goal.invariant_of-self
invariant_of-self g c =
    let table = c.self.inside.table.items in
    let made = c.self.inside.made.items in
    let slot = c.in_ok-made.field-0.now in
    let at = place_is table _ c.place_in-place.result c.args.v c.as_slice.ensures.value c.place_in-place.ensures in
    let within : c.place_in-place.result < length made = subst (λ s. c.place_in-place.result < length s) c.deref.ensures.value c.in_ok-made.ensures.lookup.3.0 in
    let is : slot ≡ get_or made c.place_in-place.result slot = subst (λ s. slot ≡ get_or s c.place_in-place.result slot) c.deref.ensures.value (c.in_ok-made.ensures.lookup.3.1 slot) in
    IsSlotted-written table made c.self.invariant (record { vertex = slot.vertex; node = slot.node + 2147483648; cost = slot.cost }) c.place_in-place.result c.args.v at (vertex_read table made c.self.invariant c.place_in-place.result c.args.v at within slot is) within

pub returns-clause-some : goal.returns-clause-some
returns-clause-some g c =
    let table = c.self.inside.table.items in
    let made = c.self.inside.made.items in
    let slot = c.in_ok-made.field-0.now in
    let at = place_is table _ c.place_in-place.result c.args.v c.as_slice.ensures.value c.place_in-place.ensures in
    let within : c.place_in-place.result < length made = subst (λ s. c.place_in-place.result < length s) c.deref.ensures.value c.in_ok-made.ensures.lookup.3.0 in
    let is : slot ≡ get_or made c.place_in-place.result slot = subst (λ s. slot ≡ get_or s c.place_in-place.result slot) c.deref.ensures.value (c.in_ok-made.ensures.lookup.3.1 slot) in
    let below = c.if-made-ge-SETTLED.false in
    let named : slot.node < 2 ^ 31 = omega arith in (
      ap (λ slots. slot_at slots c.args.v) (sym c.self.view_is) ∙ slot_at-made table made c.self.invariant.few c.place_in-place.result c.args.v slot at within is ∙ slot_in-labelled slot named,
      slot_at-written table made c.self.invariant (record { vertex = slot.vertex; node = slot.node + 2147483648; cost = slot.cost }) c.place_in-place.result c.args.v at (vertex_read table made c.self.invariant c.place_in-place.result c.args.v at within slot is) within
          c.args.self.now (Settled slot.node slot.cost) c.self.view_is (slot_in-settling slot named),
    )
