-- One place more is passed over.
use Rattle.std.proofs.Common.{◌≡◌, ℕ, ◌+◌, ◌<◌, inl, inr, length, get_or, Some, arith, subst}
use Rattle.std.proofs.lemmas.Bool.{cases_lt}
use Rattle.std.proofs.lemmas.Option.{slice_get-get_or}
use Rattle.std.specs.List.{slice_get}
use Rattle.row_labels.specs.Lowered.{IsOver}
use Rattle.row_labels.proofs.Lowering.{told_over}
use Rattle.row_labels.proofs.rows.pass_over.Goals as goal

pub loop-place-preserved : goal.loop-place-preserved
loop-place-preserved g c =
    let o = c.args.offers.now in
    let place = c.loop-place.place in
    let costs = c.words-costs.result.now in
    let values = c.block-values.result.now in
    let word = get_or costs place 0 in
    let value = get_or values place 0 in
    let below : place < length costs = omega (arith, c.words-costs.ensures.long, c.block-values.ensures.long, c.requires.long) in
    let within : place < length values = omega (arith, c.block-values.ensures.long) in
    let cost = slice_get-get_or costs place 0 below in
    let kept = slice_get-get_or values place 0 within in
    let over : IsOver g.C.Cost.ranked c.args.words.now (c.args.first + place) o.paid o.costs.now place =
    told_over g.met.C.Cost.own_ranks g.met.C.Cost.few_ranks c.args.words.now (c.args.first + place) o.paid o.costs.now place o.rank o.ranks word value c.requires.ranks (c.type_inv.costs place).fits
    (λ short. c.words-costs.ensures.short place word cost short) (λ last. c.words-costs.ensures.none place (subst (λ w. slice_get costs place ≡ Some w) last cost)) (λ short. c.block-values.ensures.ranks place value kept short) c.if-not-is_over.ensures in
    λ j from lt. elim (cases_lt j place) [
      | inl less ↦ c.loop-place.invariant j from less
      | inr past ↦
          let same : place ≡ j = omega (arith, past, lt) in
          subst (λ (k : ℕ). IsOver g.C.Cost.ranked c.args.words.now (c.args.first + k) o.paid o.costs.now k) same over
    ]
