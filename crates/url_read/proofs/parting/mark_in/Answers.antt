-- This place is no mark, and its byte is counted.
use Rattle.std.proofs.Common.{◌≡◌, ◌<◌, eqb, length, false, sym, ◌∙◌, arith}
use Rattle.std.proofs.lemmas.Grind.{common_steps}
use Rattle.url_read.specs.Target.{is_mark}
use Rattle.url_read.proofs.Marks.{count-next, find-behind, is_mark-other, is_mark-unbalanced}
use Rattle.url_read.proofs.parting.mark_in.Goals.{else-byte-eq63-via-then-byte-eq63+else-opened-closed, else-byte-eq63-via-else-byte-eq63}
use Rattle.url_read.proofs.parting.mark_in.Goals as goal

pub loop-place-preserved : goal.loop-place-preserved
loop-place-preserved c =
    let target = c.args.target.now in
    let place = c.loop-place.place in
    let lt : place < length target = omega arith in
    let no_mark : is_mark target place ≡ false = elim c.else-byte-eq63.branch [
      | else-byte-eq63-via-then-byte-eq63+else-opened-closed w ↦ is_mark-unbalanced target place c.loop-place.opened c.loop-place.closed c.loop-place.invariant.opened c.loop-place.invariant.closed (w.if-opened-closed.false)
      | else-byte-eq63-via-else-byte-eq63 w ↦ is_mark-other target place (w.if-byte-eq63.false)
    ] in
    let opened = count-next (λ b. eqb b 40) target place lt in
    let closed = count-next (λ b. eqb b 41) target place lt in
    record {
      left = sym (find-behind target place lt no_mark) ∙ c.loop-place.invariant.left;
      opened = grind (arith, common_steps);
      closed = grind (arith, common_steps);
      few_opened = grind (arith, common_steps);
      few_closed = grind (arith, common_steps);
    }
