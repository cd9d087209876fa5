use Rattle.std.proofs.Common.{◌≡◌, Some, ap, ◌∙◌}
use Rattle.left_right.specs.Sides.{view}
use Rattle.metric_publish.specs.History.{last_of, entry_of}
use Rattle.metric_publish.specs.Board.{Sees}
use Rattle.metric_publish.proofs.ReadLaws.{entered_at}
use Rattle.metric_publish.proofs.Turns.{enters}
use Rattle.metric_publish.proofs.seat.read.Goals as goal

pub enter_as-requires : goal.enter_as-requires
enter_as-requires g c x = enters (λ s. s.front.token.log) (λ s. s.put.number) _ _ x

pub returns-in-Ok-value : goal.returns-in-Ok-value
returns-in-Ok-value g c =
    let shown = c.get-shown.result.now in
    let sees : Sees (view c.args.reader.place) shown.front.token.log shown.put.number (view c.in-Ok.reading.place) = rw c.get-shown.ensures c.in-Ok.ensures.1 in
    let last : last_of c.again-front.result.token.log ≡ Some (entry_of shown.put) = ap last_of c.again-front.ensures ∙ shown.last in (
      entered_at _ _ _ _ _ (entry_of shown.put) sees shown.last c.again-front.ensures c.leave-reader.ensures.1,
      rw (c.of.ensures, c.in-Ok-value.ensures) last,
    )

pub returns-in-Err-value : goal.returns-in-Err-value
returns-in-Err-value g c =
    let shown = c.get-shown.result.now in
    let sees : Sees (view c.args.reader.place) shown.front.token.log shown.put.number (view c.in-Ok.reading.place) = rw c.get-shown.ensures c.in-Ok.ensures.1 in (
      entered_at _ _ _ _ _ (entry_of shown.put) sees shown.last c.again-front.ensures c.leave-reader.ensures.1,
      tt,
    )
