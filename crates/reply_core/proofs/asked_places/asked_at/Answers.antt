use Rattle.reply_core.proofs.AnswerLemmas.{asked-at}
use Rattle.reply_core.proofs.asked_places.asked_at.Goals as goal

pub returns : goal.returns
returns c =
    rw c.filter_of.ensures
    (asked-at c.args.request.now c.args.number c.element-coordinate.result c.element-radius.result c.element-bearing.result (rw c.as_slice.ensures at c.element-coordinate.ensures) (rw c.as_slice-2.ensures at c.element-radius.ensures)
    (rw c.as_slice-3.ensures at c.element-bearing.ensures))
