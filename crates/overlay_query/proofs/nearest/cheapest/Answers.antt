-- The starts and targets are the terminals.
use Rattle.std.proofs.Common.{◌∙◌}
use Rattle.overlay_query.proofs.Asking.{start_in, target_in, terminals_below}
use Rattle.overlay_query.proofs.nearest.cheapest.Goals as goal

pub of-requires : goal.of-requires
of-requires g c = terminals_below g.C.Cost.ops c.args.starts.now c.args.targets.now c.in_ok-all.all.items c.in_ok-all.ensures c.args.frame.now.graph.vertices c.requires.starts c.requires.targets

pub cheapest_over-requires-clause-query : goal.cheapest_over-requires-clause-query
cheapest_over-requires-clause-query g c =
    let are = c.in_ok-parts.ensures.vertices ∙ c.in_ok-all.ensures in
    record {
      framed = c.known-2.ensures.framed;
      small = c.requires.weights;
      exact = c.requires.cliques;
      lawful = c.known-2.ensures.lawful;
      high = c.known.ensures.high;
      inside = terminals_below g.C.Cost.ops c.args.starts.now c.args.targets.now _ are c.args.frame.now.graph.vertices c.requires.starts c.requires.targets;
      alone = c.alone.ensures;
      starts_in = start_in g.C.Cost.ops c.args.starts.now c.args.targets.now _ are;
      starts_unit = λ s h. (c.requires.starts s h).1;
    }

pub cheapest_over-requires-clause-targets : goal.cheapest_over-requires-clause-targets
cheapest_over-requires-clause-targets g c = λ t h. record {
  among = target_in g.C.Cost.ops c.args.starts.now c.args.targets.now _ (c.in_ok-parts.ensures.vertices ∙ c.in_ok-all.ensures) t h;
  below = (c.requires.targets t h).0;
  unit = (c.requires.targets t h).1;
}
