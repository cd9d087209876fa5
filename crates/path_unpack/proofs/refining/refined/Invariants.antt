use Rattle.std.proofs.Common.{◌≡◌, ◌-◌, ◌++◌, drop}
use Rattle.path_unpack.specs.Finer.{StandFor, AreUpTo, end_of}
use Rattle.path_unpack.proofs.refining.refined.Given as goal

-- what is done, with what is left behind it, stands for all
abbrev pub invariant-loop-hop : goal.invariant-loop-hop
invariant-loop-hop g l = record {
  at : l.at ≡ end_of l.first l.finer.items;
  stand : StandFor g.C.Cost.ops l.overlay.frame.now l.overlay.weights.now l.first l.hops (l.finer.items ++ drop l.hop-index l.hops);
  low : AreUpTo (l.level - 1) l.finer.items;
  left : AreUpTo l.level (drop l.hop-index l.hops);
}
