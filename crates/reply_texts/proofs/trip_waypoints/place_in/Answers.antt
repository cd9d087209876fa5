use Rattle.std.proofs.Common.{◌==◌, ℕ, Option, ap, length, ◌∙◌}
use Rattle.std.specs.Option.{unwrap_or}
use Rattle.reply_texts.proofs.WaypointLemmas.{position-or-length}
use Rattle.reply_texts.proofs.trip_waypoints.place_in.Goals as goal

pub returns : goal.returns
returns c =
    let order = c.args.order.now in
    c.unwrap_or.ensures ∙ ap (λ (o : Option ℕ). unwrap_or o (length order)) c.position_in.ensures
    ∙ position-or-length (λ stop. stop == c.args.number) order
