use Rattle.std.proofs.Common.{◌≡◌, ◌/◌, inl, inr, arith, subst, sym}
use Rattle.std.proofs.lemmas.Bool.{cases_lt}
use Rattle.std.proofs.lemmas.Option.{slice_get_within, get_or_from_slice_get}
use Rattle.snap_index.specs.Index.{HasAt, HasLine}
use Rattle.snap_index.specs.declared.extents.Extent.{Extent}
use Rattle.snap_index.proofs.indexes.extents_over.Goals as goal

pub loop-i-preserved : goal.loop-i-preserved
loop-i-preserved c = record {
  count = omega (arith, c.in_ok-add.ensures.count);
  cover = λ k line lt has. elim (cases_lt k c.loop-i.i) [
    | inl less ↦ c.in_ok-add.ensures.stays (k / 16) line (c.loop-i.invariant.cover k line less has)
    | inr ge ↦
        let same : c.loop-i.i ≡ k = omega (arith, ge, lt) in
        let here : HasAt c.args.parts.now c.loop-i.i line = subst (λ n. HasAt c.args.parts.now n line) (sym same) has in
        subst (λ n. HasAt c.add.new.extents.items (n / 16) line) same
        (c.in_ok-add.ensures.added line (subst (λ (e : Extent). HasLine e line) (sym (get_or_from_slice_get c.args.parts.now c.loop-i.i here.0 _ here.1)) here.2))
  ];
}

pub returns : goal.returns
returns c = λ k line has.
    let lt = slice_get_within c.args.parts.now k has.0 has.1 in
    c.loop-i.invariant.cover k line (omega (arith, lt)) has
