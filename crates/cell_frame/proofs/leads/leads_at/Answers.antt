-- Each turn tells of one exit more.
use Rattle.std.proofs.Common.{◌<◌, length, arith}
use Rattle.std.proofs.lemmas.Option.{slice_get-get_or}
use Rattle.cell_frame.proofs.Beside.{AreLeads-push}
use Rattle.cell_frame.proofs.leads.leads_at.Goals as goal

pub loop-place-preserved : goal.loop-place-preserved
loop-place-preserved c =
    let cut = c.args.cut.now in
    let within : c.loop-place.place < length c.args.exits.now = omega (arith, c.loop-place-test.true) in
    rw c.in_ok-push.ensures.items (AreLeads-push cut.cells.now cut.entries.now c.args.known.now c.args.level c.args.exits.now c.loop-place.place _ c.lead_of.result c.loop-place.list.items (slice_get-get_or c.args.exits.now c.loop-place.place 0 within) c.lead_of.ensures c.loop-place.invariant)
