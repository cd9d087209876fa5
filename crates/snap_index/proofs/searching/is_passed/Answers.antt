use Rattle.std.proofs.Common.{◌/◌, subst}
use Rattle.std.proofs.lemmas.Option.{get_or_from_slice_get}
use Rattle.geo_integer.specs.Position.{Position}
use Rattle.snap_index.specs.Index.{HasAt, IsOutside, IsWithin}
use Rattle.snap_index.specs.declared.extents.Extent.{Extent}
use Rattle.snap_index.proofs.JudgeLemmas.{one-quotient}
use Rattle.snap_index.proofs.searching.is_passed.Goals as goal

pub returns : goal.returns
returns c = λ t i line low high has.
    let at : HasAt c.args.extents.now (c.args.at / c.args.size) line = subst (λ k. HasAt c.args.extents.now k line) (one-quotient c.args.at i c.args.size c.requires c.if-at-size-ne0.false low high) has in
    (at.0, at.2, subst (λ (extent : Extent). (p : Position) → IsWithin extent p → IsOutside c.args.frame p) (get_or_from_slice_get c.args.extents.now (c.args.at / c.args.size) at.0 _ at.1) (c.is_outside.ensures t))
