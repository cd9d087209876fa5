use Rattle.std.proofs.Common.{◌≡◌, ◌/◌, ◌≤◌, ◌∙◌, arith, subst, sym}
use Rattle.std.proofs.lemmas.Bool.{leb-true}
use Rattle.std.proofs.lemmas.Option.{get_or_from_slice_get}
use Rattle.line_simplify.specs.Blocks.{HasAt, HasPoint}
use Rattle.line_simplify.specs.Simplified.{offset_of}
use Rattle.line_simplify.specs.declared.extents.Extent.{Extent}
use Rattle.line_simplify.proofs.Runs.{one-quotient}
use Rattle.line_simplify.proofs.blocks.is_passed.Goals as goal

-- a number of the run has the extent that was looked at
pub returns : goal.returns
returns c = λ t i p low high has.
    let at : HasAt c.args.extents.now (c.args.number / c.args.size) p = subst (λ k. HasAt c.args.extents.now k p) (one-quotient c.args.number i c.args.size c.requires c.if-number-size-ne0.false low high) has in
    let same : at.0 ≡ c.index-extents-number.result = sym (c.index-extents-number.is ∙ get_or_from_slice_get c.args.extents.now (c.args.number / c.args.size) at.0 c.index-extents-number.result at.1) in
    let there : HasPoint c.index-extents-number.result p = subst (λ (e : Extent). HasPoint e p) same at.2 in
    let within : offset_of c.args.line.from c.args.line.to p ≤ c.most_within.result = c.most_within.ensures p there in
    let most : c.most_within.result ≤ c.args.most = leb-true c.most_within.result c.args.most t in
    omega (arith, within, most)
