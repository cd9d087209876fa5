-- One vertex more is known.
use Rattle.std.proofs.Common.{◌++◌, ◌∷◌, [], List, append-nil, arith, refl, sym, ◌∙◌, ap}
use Rattle.cell_frame.specs.declared.spots.Spot.{Spot}
use Rattle.cell_frame.proofs.Known.{AreArcs-none, AreSpots-border, AreSpots-inner}
use Rattle.cell_frame.proofs.spots.push_spot.Goals as goal

pub returns-then-is_inner : goal.returns-then-is_inner
returns-then-is_inner c =
    let cut = c.args.cut.now in
    let known = c.args.known.now in
    AreSpots-inner cut.graph.now cut.cells.now cut.entries.now known _ c.args.v c.lowest-lowest.result _ [] [] c.requires.known c.lowest-lowest.ensures c.in_ok-push.ensures.items (sym (append-nil known.tells.items)) (sym (append-nil known.crossings.items)) (AreArcs-none cut.graph.now) refl c.if-is_inner.ensures

pub returns : goal.returns
returns c =
    let cut = c.args.cut.now in
    let known = c.args.known.now in
    let told = c.in_ok-push_tells.ensures in
    let spot : Spot = record { lowest = c.lowest-lowest.result; border = c.in_ok-border.border } in
    AreSpots-border cut.graph.now cut.cells.now cut.entries.now known _ c.args.v c.lowest-lowest.result c.in_ok-border.border told.tells.0 told.crossings.0 c.requires.known c.lowest-lowest.ensures (c.in_ok-push-2.ensures.items ∙ ap (λ (ss : List Spot). ss ++ spot ∷ []) told.spots) told.tells.1 told.crossings.1 told.crossings.2 (omega (arith, c.in_ok-border.ensures.0, c.len.ensures)) c.in_ok-border.ensures.1 told.tells.2
