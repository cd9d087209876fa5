-- Another vertex keeps its mark.
use Rattle.std.proofs.Common.{◌<◌, inl, inr, true, false, length, sym, true≢false, arith}
use Rattle.std.proofs.lemmas.Option.{slice_get_within}
use Rattle.list_lemmas.proofs.Gets.{get_set}
use Rattle.cell_frame.proofs.borders.set_mark.Goals as goal

pub returns-then-v-marks : goal.returns-then-v-marks
returns-then-v-marks c = λ u e. elim (get_set c.args.marks.now c.args.v u true false e) [
  | inl q ↦ absurd (true≢false (sym q.1))
  | inr q ↦ (q.1, q.0)
]

pub returns-else-v-marks : goal.returns-else-v-marks
returns-else-v-marks c = λ u e.
    let within : u < length c.args.marks.now = slice_get_within c.args.marks.now u false e in
    (e, λ same. omega (arith, within, same, c.if-v-marks.false))
