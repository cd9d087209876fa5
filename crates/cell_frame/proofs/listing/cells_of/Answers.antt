-- Each turn has one number more.
use Rattle.std.proofs.lemmas.Option.{slice_get-get_or}
use Rattle.cell_frame.specs.Listing.{IsCellOf}
use Rattle.cell_frame.proofs.CellLists.{AreEach-push}
use Rattle.cell_frame.proofs.listing.cells_of.Goals as goal

pub loop-vertex-preserved : goal.loop-vertex-preserved
loop-vertex-preserved c =
    let within = c.requires.inside c.loop-vertex.vertex-index 0 c.loop-vertex-test.true in
    let placed = (c.cell.ensures.kept.level c.args.level c.requires.above c.requires.below).placed _ within in
    rw c.in_ok-push.ensures.items (AreEach-push (IsCellOf c.args.cells.now c.args.level) c.args.vertices.now c.loop-vertex.numbers.items c.loop-vertex.vertex-index _ _ (slice_get-get_or c.args.vertices.now c.loop-vertex.vertex-index 0 c.loop-vertex-test.true)
    (c.cell.ensures.number, rw c.cell.ensures.number placed) c.loop-vertex.invariant)
