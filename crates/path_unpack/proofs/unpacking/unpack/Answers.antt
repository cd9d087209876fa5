-- All hops but the last lead on, and the walk stands for what the arcs in their place do.
use Rattle.std.proofs.Common.{refl}
use Rattle.path_unpack.proofs.Ending.{some_hops, front_leads, StandsFor-given}
use Rattle.path_unpack.proofs.unpacking.unpack.Goals as goal

pub arcs_of-requires-clause-leads : goal.arcs_of-requires-clause-leads
arcs_of-requires-clause-leads g c = rw c.as_slice-hops.ensures (front_leads g.C.Cost.ops c.args.frame.now c.args.weights.now c.args.packed.now.first c.args.packed.now.hops _ refl c.requires.packed)

pub returns : goal.returns
returns g c = StandsFor-given g.C.Cost.ops c.args.frame.now c.args.weights.now c.args.packed.now.first c.args.packed.now.hops c.as_slice-hops.result.now c.in_ok-arcs.arcs.items _ c.in_ok-walk.walk.items c.as_slice-hops.ensures
    (some_hops g.C.Cost.ops c.args.frame.now c.args.weights.now c.args.packed.now.first c.args.packed.now.hops c.requires.packed) c.in_ok-arcs.ensures.stand c.in_ok-arcs.ensures.arcs (rw c.as_slice.ensures.value at c.in_ok-walk.ensures)
