use Rattle.std.proofs.Common.{◌≡◌, ◌/◌, ◌∙◌, inl, inr, arith, subst, ap, get_or}
use Rattle.std.proofs.lemmas.Bool.{cases_lt}
use Rattle.std.proofs.lemmas.Option.{slice_get_within, get_or_from_slice_get}
use Rattle.road_base.specs.declared.coordinates.Point.{Point}
use Rattle.line_simplify.specs.Blocks.{HasAt, HasPoint}
use Rattle.line_simplify.proofs.blocks.extents_of.Goals as goal

pub loop-i-preserved : goal.loop-i-preserved
loop-i-preserved c = record {
  count = omega (arith, c.in_ok-add.ensures.count);
  cover = λ i p lt at. elim (cases_lt i c.loop-i.i) [
    | inl less ↦ c.in_ok-add.ensures.stays (i / 16) p (c.loop-i.invariant.cover i p less at)
    | inr ge ↦
        let same : c.loop-i.i ≡ i = omega (arith, ge, lt) in
        let equal : c.index-points-i.result ≡ p = c.index-points-i.is ∙ ap (λ n. get_or c.args.points.now n c.index-points-i.result) same ∙ get_or_from_slice_get c.args.points.now i p c.index-points-i.result at in
        let has : HasPoint c.extent_of.result p = subst (λ (q : Point). HasPoint c.extent_of.result q) equal c.extent_of.ensures in
        subst (λ k. HasAt c.add.new.extents.items (k / 16) p) same (c.in_ok-add.ensures.added p has)
  ];
}

pub returns : goal.returns
returns c = λ i p at.
    let lt = slice_get_within c.args.points.now i p at in
    c.loop-i.invariant.cover i p (omega (arith, lt)) at
