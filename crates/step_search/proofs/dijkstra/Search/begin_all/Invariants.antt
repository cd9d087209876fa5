-- The search has begun at the starts so far, and has settled nothing.
use Rattle.std.proofs.Common.{take}
use Rattle.search_labels.specs.Labelled.{settled_of}
use Rattle.step_search.specs.Stepping.{NoneSettled}
use Rattle.step_search.specs.UnderWay.{IsBegun}
use Rattle.step_search.proofs.dijkstra.Search.begin_all.Given as goal

abbrev pub invariant-loop-start : goal.invariant-loop-start
invariant-loop-start g l = record {
  begun : IsBegun g.C.Cost.ops (g.T.Steps.space l.steps) l.starts (take l.start-index l.starts) l.self;
  unsettled : NoneSettled (settled_of l.self.labels);
}
