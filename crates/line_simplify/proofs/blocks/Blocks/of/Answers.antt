use Rattle.std.proofs.Common.{◌≡◌, ◌+◌, ◌/◌, arith, subst}
use Rattle.line_simplify.specs.Blocks.{HasAt, IsCovered}
use Rattle.line_simplify.proofs.blocks.Blocks.of.Goals as goal

-- an extent of 256 has 16 of 16, and one of 4096 has 16 of 256
pub returns : goal.returns
returns c = λ i p at.
    let leaf : HasAt c.in_ok-leaves.leaves.items (i / 16) p = c.in_ok-leaves.ensures i p at in
    let block : HasAt c.in_ok-blocks.blocks.items (i / 256) p =
    let same : i / 16 / 16 ≡ i / 256 = omega arith in
    subst (λ k. HasAt c.in_ok-blocks.blocks.items k p) same (c.in_ok-blocks.ensures (i / 16) p (rw c.deref.ensures.value leaf)) in
    let group : HasAt c.in_ok-groups.groups.items (i / 4096) p =
    let same : i / 256 / 16 ≡ i / 4096 = omega arith in
    subst (λ k. HasAt c.in_ok-groups.groups.items k p) same (c.in_ok-groups.ensures (i / 256) p (rw c.deref-2.ensures.value block)) in
    let all : IsCovered (record { leaves = c.in_ok-leaves.leaves; blocks = c.in_ok-blocks.blocks; groups = c.in_ok-groups.groups }) i p = record { leaf = leaf; block = block; group = group } in
    let first : i ≡ 0 + i = omega arith in
    subst (λ n. IsCovered (record { leaves = c.in_ok-leaves.leaves; blocks = c.in_ok-blocks.blocks; groups = c.in_ok-groups.groups }) n p) first all
