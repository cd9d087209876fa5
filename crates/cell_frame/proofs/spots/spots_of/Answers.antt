-- What isn't marked is no entry.
use Rattle.std.proofs.Common.{arith}
use Rattle.cell_frame.proofs.Known.{IsNoEntry-unmarked, on_false}
use Rattle.cell_frame.proofs.spots.spots_of.Goals as goal

pub push_spot-requires-clause-marked : goal.push_spot-requires-clause-marked
push_spot-requires-clause-marked c =
    let cut = c.args.cut.now in
    on_false c.is_marked-marked.result (rw c.deref.ensures.value at c.is_marked-marked.ensures) (λ mark. IsNoEntry-unmarked cut.graph.now cut.cells.now cut.entries.now c.in_ok-marks.marks.items c.loop-v.v c.requires.cut (omega (arith, c.loop-v-test.true, c.vertices-vertices.ensures)) c.in_ok-marks.ensures mark)
