use Rattle.std.proofs.Common.{◌/◌, ◌<◌, arith, subst}
use Rattle.std.proofs.lemmas.Option.{get_or_from_slice_get}
use Rattle.geo_integer.specs.Position.{position_of}
use Rattle.snap_index.specs.Index.{HasAt, IsBeyond}
use Rattle.snap_index.specs.declared.extents.Extent.{Extent}
use Rattle.snap_index.proofs.JudgeLemmas.{one-quotient}
use Rattle.snap_index.proofs.searching.is_leaf_beyond.Goals as goal

pub returns : goal.returns
returns c = λ t i line low high has.
    let some : 0 < 16 = omega arith in
    let at : HasAt c.args.leaves.now (c.args.at / 16) line = subst (λ k. HasAt c.args.leaves.now k line) (one-quotient c.args.at i 16 some c.if-at-ne0.false low high) has in
    (at.0, at.2, subst (λ (extent : Extent). IsBeyond (position_of c.args.from) c.args.cosine c.args.far extent) (get_or_from_slice_get c.args.leaves.now (c.args.at / 16) at.0 _ at.1) (c.is_beyond.ensures t))
