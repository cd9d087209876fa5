use Rattle.std.proofs.Common.{◌≡◌, None, ◌++◌, ◌*◌, ◌-◌, ◌≤◌, get_or, length, map, take}
use Rattle.edge_graph.specs.NetworkView.{copies_in}
use Rattle.via_paths.specs.Forbidden.{last_of}
use Rattle.metric_make.proofs.copies.with_copies.Given as goal

-- the copies so far have their costs
abbrev pub invariant-loop-q : goal.invariant-loop-q
invariant-loop-q l = record {
  from : 2 * length l.network.segments ≤ l.q;
  paid : l.costs ≡ l.fn.costs ++ take (l.q - 2 * length l.network.segments) (map (λ word. get_or l.fn.costs (last_of word) None) (copies_in l.network));
}
