use Rattle.std.proofs.Common.{◌≡◌, ◌/◌, arith, subst}
use Rattle.snap_index.specs.Index.{Cover, HasAt}
use Rattle.snap_index.proofs.indexes.Index.of.Goals as goal

-- an extent of 256 has 16 of 16, and one of 4096 has 16 of 256
pub returns : goal.returns
returns c =
    let leaves : Cover 16 c.args.lines.now c.in_ok-order.order.items c.in_ok-leaves.leaves.items = rw c.deref.ensures.value at c.in_ok-leaves.ensures in
    let blocks : Cover 256 c.args.lines.now c.in_ok-order.order.items c.in_ok-blocks.blocks.items = λ i s line at is.
    let same : i / 16 / 16 ≡ i / 256 = omega arith in
    subst (λ k. HasAt c.in_ok-blocks.blocks.items k line) same (c.in_ok-blocks.ensures (i / 16) line (rw c.deref-2.ensures.value (leaves i s line at is))) in
    let groups : Cover 4096 c.args.lines.now c.in_ok-order.order.items c.in_ok-groups.groups.items = λ i s line at is.
    let same : i / 256 / 16 ≡ i / 4096 = omega arith in
    subst (λ k. HasAt c.in_ok-groups.groups.items k line) same (c.in_ok-groups.ensures (i / 256) line (rw c.deref-3.ensures.value (blocks i s line at is))) in
    record { few = c.requires; order = c.in_ok-order.ensures; leaves = leaves; blocks = blocks; groups = groups }
