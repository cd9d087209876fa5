-- No cell is above the highest level, and what stands for the hops leads on as they do.
use Rattle.path_unpack.proofs.Replacing.{chain_up_to}
use Rattle.path_unpack.proofs.refining.arcs_of.Goals as goal

pub loop-level-init : goal.loop-level-init
loop-level-init g c = rw c.in_ok-finer.ensures.items (record {
  stand = λ a d z v h. h;
  low = rw c.levels-level.ensures (chain_up_to g.C.Cost.ops c.args.overlay.now.frame.now c.args.overlay.now.weights.now _ _ _ _ c.args.hops.now c.requires.leads.2);
})

pub refined-requires-clause-leads : goal.refined-requires-clause-leads
refined-requires-clause-leads g c = rw c.as_slice.ensures.value (c.requires.leads.0, c.requires.leads.1, c.loop-level.invariant.stand g.C.Cost.ops.zero c.requires.leads.1 c.requires.leads.0 g.met.C.Cost.laws.zero_valid c.requires.leads.2)
