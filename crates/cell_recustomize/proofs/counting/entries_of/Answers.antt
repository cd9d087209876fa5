-- Each turn counts the entries of one marked cell more.
use Rattle.std.proofs.Common.{◌≡◌, ℕ, ◌<◌, true, false, Some, length, subst, sym, ◌∙◌, ap, arith}
use Rattle.std.specs.List.{slice_get}
use Rattle.std.proofs.lemmas.Option.{slice_get-get_or}
use Rattle.cell_partition.specs.Partition.{level_at}
use Rattle.cell_frame.specs.declared.cells.Cell.{Cell}
use Rattle.cell_frame.specs.Borders.{IsCell}
use Rattle.cell_recustomize.proofs.Counted.{count_marked, count_unmarked, count_all, entries_within}
use Rattle.cell_recustomize.proofs.counting.entries_of.Goals.{then-marks-number, else-marks-number}
use Rattle.cell_recustomize.proofs.counting.entries_of.Goals as goal

pub loop-number-preserved : goal.loop-number-preserved
loop-number-preserved c =
    let f = c.args.frame.now in
    let n = c.loop-number.number in
    let marks = c.args.marks.now in
    let here : Cell = record { level = c.args.level; number = n } in
    let low : n < length (level_at f.cells c.args.level) = subst (λ (m : ℕ). n < m) c.count-number-end.ensures c.loop-number-test.true in
    let marked : n < length marks = subst (λ (m : ℕ). n < m) (sym c.requires.size) low in
    let is_cell : IsCell f.cells here = (c.requires.above, c.requires.below, low) in
    let bounds = entries_within f c.known.ensures here is_cell in
    let before = c.loop-number.invariant in
    elim c.if-marks-number.branch [
      | then-marks-number w ↦
          let mark : slice_get marks n ≡ Some true = slice_get-get_or marks n false marked ∙ ap Some w.if-marks-number.true in
          rw (w.count-is, w.entries.ensures)
          record {
            count = count_marked f c.args.level marks n c.loop-number.count mark before.count;
            within = omega (arith, before.within, bounds.0);
            few = omega (arith, before.within, bounds.0, bounds.1);
          }
      | else-marks-number w ↦
          let mark : slice_get marks n ≡ Some false = slice_get-get_or marks n false marked ∙ ap Some w.if-marks-number.false in
          rw w.count-is
          record {
            count = count_unmarked f c.args.level marks n c.loop-number.count mark before.count;
            within = omega (arith, before.within, bounds.0);
            few = before.few;
          }
    ]

pub returns-clause-count : goal.returns-clause-count
returns-clause-count c =
    let whole : length c.args.marks.now ≡ c.count-number-end.result = c.requires.size ∙ sym c.count-number-end.ensures in
    let all : c.loop-number.number ≡ length c.args.marks.now = omega (arith, whole, c.loop-number.auto.number-end, c.loop-number-test.false) in
    count_all c.args.frame.now c.args.level c.args.marks.now c.loop-number.number c.loop-number.count all c.loop-number.invariant.count
