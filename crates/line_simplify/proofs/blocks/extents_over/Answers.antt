use Rattle.std.proofs.Common.{◌≡◌, ◌/◌, ◌∙◌, inl, inr, arith, subst, sym}
use Rattle.std.proofs.lemmas.Bool.{cases_lt}
use Rattle.std.proofs.lemmas.Option.{slice_get_within, get_or_from_slice_get}
use Rattle.line_simplify.specs.Blocks.{HasAt, HasPoint}
use Rattle.line_simplify.specs.declared.extents.Extent.{Extent}
use Rattle.line_simplify.proofs.blocks.extents_over.Goals as goal

pub loop-i-preserved : goal.loop-i-preserved
loop-i-preserved c = record {
  count = omega (arith, c.in_ok-add.ensures.count);
  cover = λ k p lt has. elim (cases_lt k c.loop-i.i) [
    | inl less ↦ c.in_ok-add.ensures.stays (k / 16) p (c.loop-i.invariant.cover k p less has)
    | inr ge ↦
        let same : c.loop-i.i ≡ k = omega (arith, ge, lt) in
        let here : HasAt c.args.parts.now c.loop-i.i p = subst (λ n. HasAt c.args.parts.now n p) (sym same) has in
        subst (λ n. HasAt c.add.new.extents.items (n / 16) p) same
        (c.in_ok-add.ensures.added p (subst (λ (e : Extent). HasPoint e p) (sym (get_or_from_slice_get c.args.parts.now c.loop-i.i here.0 c.index-parts-i.result here.1) ∙ sym c.index-parts-i.is) here.2))
  ];
}

pub returns : goal.returns
returns c = λ k p has.
    let lt = slice_get_within c.args.parts.now k has.0 has.1 in
    c.loop-i.invariant.cover k p (omega (arith, lt)) has
