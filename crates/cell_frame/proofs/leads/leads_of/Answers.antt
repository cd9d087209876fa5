-- Each turn tells of one level more.
use Rattle.std.proofs.Common.{◌<◌, length, sym, arith}
use Rattle.list_lemmas.proofs.Gets.{get_is}
use Rattle.cell_frame.proofs.Beside.{AreLevels-push}
use Rattle.cell_frame.proofs.leads.leads_of.Goals as goal

pub loop-below-preserved : goal.loop-below-preserved
loop-below-preserved c =
    let cut = c.args.cut.now in
    let within : c.loop-below.below < length c.args.exits.now = omega (arith, c.loop-below-test.true, c.levels-below-end.ensures, c.requires.exits.size) in
    rw c.in_ok-push.ensures.items (AreLevels-push cut.cells.now cut.entries.now c.args.known.now c.args.exits.now c.loop-below.below c.index-exits-below.result c.in_ok-leads_at.field-0 c.loop-below.leads.items (get_is c.args.exits.now c.loop-below.below c.index-exits-below.result within (sym c.index-exits-below.is)) (rw c.all-vertices.ensures at c.in_ok-leads_at.ensures) c.loop-below.invariant)
