-- The arcs that are known of a vertex that is no entry are told, and else none.
use Rattle.std.proofs.Common.{refl}
use Rattle.cell_frame.proofs.Beside.{IsLead-known}
use Rattle.cell_frame.proofs.Leaving.{tell_there}
use Rattle.cell_frame.proofs.leads.lead_of.Goals as goal

pub tell-requires-clause-there : goal.tell-requires-clause-there
tell-requires-clause-there c =
    let cut = c.args.cut.now in
    let known = c.args.known.now in
    rw c.deref.ensures.value (tell_there cut.graph.now cut.cells.now cut.entries.now known.tells.items known.crossings.items c.args.level c.args.v c.spot.result (c.requires.known.each c.args.v c.spot.result c.spot.ensures) c.requires.above c.requires.below)

pub returns-in-None : goal.returns-in-None
returns-in-None c =
    let cut = c.args.cut.now in
    let known = c.args.known.now in
    IsLead-known cut.cells.now cut.entries.now known cut.graph.now c.args.level c.args.v c.spot.result c.in-Some.tell (c.requires.known.each c.args.v c.spot.result c.spot.ensures) c.spot.ensures c.requires.above c.requires.below (rw c.deref.ensures.value at c.in-Some.ensures) (c.in-None.ensures.none refl)
