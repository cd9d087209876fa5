use Rattle.std.proofs.Common.{◌≡◌, ◌/◌, ◌∙◌, inl, inr, arith, get_or, subst, ap}
use Rattle.std.proofs.lemmas.Bool.{cases_lt}
use Rattle.std.proofs.lemmas.Option.{slice_get_within, get_or_from_slice_get}
use Rattle.snap_index.specs.Index.{HasAt, HasLine}
use Rattle.snap_index.specs.declared.grids.SegmentEnds.{SegmentEnds}
use Rattle.snap_index.proofs.indexes.extents_of.Goals as goal

pub loop-i-preserved : goal.loop-i-preserved
loop-i-preserved c = record {
  count = omega (arith, c.in_ok-add.ensures.count);
  cover = λ i s line lt at is. elim (cases_lt i c.loop-i.i) [
    | inl less ↦ c.in_ok-add.ensures.stays (i / 16) line (c.loop-i.invariant.cover i s line less at is)
    | inr ge ↦
        let same : c.loop-i.i ≡ i = omega (arith, ge, lt) in
        let here : get_or c.args.order.now c.loop-i.i 0 ≡ s = ap (λ n. get_or c.args.order.now n 0) same ∙ get_or_from_slice_get c.args.order.now i s 0 at in
        let equal : c.index-lines-segment.result ≡ line =
        c.index-lines-segment.is ∙ ap (λ t. get_or c.args.lines.now t c.index-lines-segment.result) here ∙ get_or_from_slice_get c.args.lines.now s line c.index-lines-segment.result is in
        let has : HasLine c.extent_of.result line = subst (λ (l : SegmentEnds). HasLine c.extent_of.result l) equal c.extent_of.ensures in
        subst (λ k. HasAt c.add.new.extents.items (k / 16) line) same (c.in_ok-add.ensures.added line has)
  ];
}

pub returns : goal.returns
returns c = λ i s line at is.
    let lt = slice_get_within c.args.order.now i s at in
    c.loop-i.invariant.cover i s line (omega (arith, lt)) at is
