-- The table reaches the vertex before its slot is made, so setting the place can't fail.
use Rattle.std.proofs.Common.{◌≡◌, ◌<◌, ◌∷◌, ◌++◌, [], length, ◌∙◌, ap, arith}
use Rattle.search_labels.specs.Slotted.{unmade, slot_at}
use Rattle.search_labels.proofs.Slotted.{OnErr-always, slot_at-kept, slot_at-appended, IsSlotted-appended}
use Rattle.search_labels.proofs.slots.Slots.append.Goals as goal

pub returns-in_err-make_room-clause-same : goal.returns-in_err-make_room-clause-same
returns-in_err-make_room-clause-same g c =
    OnErr-always _ (slot_at-kept c.self.inside.table.items c.self.inside.made.items c.self.invariant c.make_room.new.table.items c.make_room.ensures.same c.make_room.new.made.items c.make_room.ensures.made ∙ ap slot_at c.self.view_is)

pub invariant_of-self-2 : goal.invariant_of-self-2
invariant_of-self-2 g c =
    let made = c.self.inside.made.items in
    let last : c.len-place.result ≡ length made = c.len-place.ensures ∙ c.self.inside.made.ok.0 in
    let few = c.self.invariant.few in
    let below = c.if-place.false in
    let room : c.len-place.result < unmade = omega arith in
    let behind = c.push_reserved.ensures.items ∙ ap (λ slots. slots ++ c.args.made ∷ []) c.make_room.ensures.made in
    IsSlotted-appended c.self.inside.table.items made c.self.invariant c.args.made c.len-place.result last room c.make_room.new.table.items c.in_ok-make_room.ensures.reached c.make_room.ensures.longer c.make_room.ensures.same c.push_reserved.new.self.items behind

pub returns-clause-put : goal.returns-clause-put
returns-clause-put g c =
    let made = c.self.inside.made.items in
    let last : c.len-place.result ≡ length made = c.len-place.ensures ∙ c.self.inside.made.ok.0 in
    let few = c.self.invariant.few in
    let below = c.if-place.false in
    let room : c.len-place.result < unmade = omega arith in
    let behind = c.push_reserved.ensures.items ∙ ap (λ slots. slots ++ c.args.made ∷ []) c.make_room.ensures.made in
    slot_at-appended c.self.inside.table.items made c.self.invariant c.args.made c.len-place.result last room c.make_room.new.table.items c.in_ok-make_room.ensures.reached c.make_room.ensures.longer c.make_room.ensures.same c.push_reserved.new.self.items c.args.self.now behind c.self.view_is
