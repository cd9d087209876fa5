-- The place among the entries, and the arcs that were put behind the others, are told of the level.
use Rattle.std.proofs.Common.{arith, ◌∙◌}
use Rattle.cell_frame.specs.declared.spots.Tell.{Tell}
use Rattle.cell_frame.proofs.Known.{AreArcs-across, TellsLevel-pushed, list_ascends, list_has, list_small, tells_entry}
use Rattle.cell_frame.proofs.spots.push_tell.Goals as goal

pub list-list-requires : goal.list-list-requires
list-list-requires c =
    let cut = c.args.cut.now in
    list_has cut.graph.now cut.cells.now cut.entries.now c.requires.cut c.args.v c.args.below c.cell.result c.index-cut-below.result c.requires.vertex c.requires.level c.cell.ensures.number

pub place_in-place-requires-clause-ascends : goal.place_in-place-requires-clause-ascends
place_in-place-requires-clause-ascends c =
    let cut = c.args.cut.now in
    rw c.list-list.ensures (list_ascends cut.graph.now cut.cells.now cut.entries.now c.requires.cut c.args.v c.args.below c.cell.result c.index-cut-below.result c.requires.vertex c.requires.level c.cell.ensures.number)

pub place_in-place-requires-clause-few : goal.place_in-place-requires-clause-few
place_in-place-requires-clause-few c =
    let cut = c.args.cut.now in
    rw c.list-list.ensures (list_small cut.graph.now cut.cells.now cut.entries.now c.requires.cut c.args.v c.args.below c.cell.result c.index-cut-below.result c.requires.vertex c.requires.level c.cell.ensures.number)

pub returns-clause-crossings : goal.returns-clause-crossings
returns-clause-crossings c =
    let cut = c.args.cut.now in
    let more = c.in_ok-push_crossings.ensures in
    (more.0, more.1, AreArcs-across cut.graph.now cut.cells.now _ c.args.v more.0 more.2)

pub returns-clause-tells : goal.returns-clause-tells
returns-clause-tells c =
    let cut = c.args.cut.now in
    let more = c.in_ok-push_crossings.ensures in
    let tell : Tell = record { place = c.place_in-place.result; first = c.in_ok-first.first; count = c.in_ok-first.count } in
    let entered = tells_entry cut.graph.now cut.cells.now cut.entries.now c.requires.cut c.args.v c.args.below c.cell.result c.index-cut-below.result c.requires.vertex c.requires.level c.cell.ensures.number c.place_in-place.result c.list-list.result.now c.list-list.ensures c.place_in-place.ensures in (
      tell,
      c.in_ok-push.ensures.items,
      TellsLevel-pushed cut.graph.now cut.cells.now cut.entries.now c.args.v _ _ more.0 _ tell more.1 more.2 entered (omega (arith, c.in_ok-first.ensures.first, c.len-from.ensures)) (omega (arith, c.in_ok-first.ensures.first, c.in_ok-first.ensures.count, c.len.ensures)) c.in_ok-first.ensures.few,
    )
