-- All arcs out of the vertex are gone through.
use Rattle.std.proofs.Common.{arith}
use Rattle.std.proofs.lemmas.Option.{slice_get_within}
use Rattle.list_lemmas.proofs.Gets.{Contains_get, get_Contains}
use Rattle.cell_frame.proofs.spots.is_left.Goals as goal

pub arc-head-requires : goal.arc-head-requires
arc-head-requires c =
    let leaves = (c.out-arcs.ensures.leaves c.get.result).0 (Contains_get _ _ _ c.get.ensures) in
    slice_get_within c.args.cut.now.graph.now.arcs c.get.result _ leaves.1

pub returns : goal.returns
returns c = λ arc w is.
    let n = get_Contains c.out-arcs.result arc ((c.out-arcs.ensures.leaves arc).1 (w, is)) in
    c.loop-place.invariant n.0 arc w (omega (arith, slice_get_within c.out-arcs.result n.0 arc n.1, c.loop-place-test.false, c.len-place-end.ensures)) n.1 is
