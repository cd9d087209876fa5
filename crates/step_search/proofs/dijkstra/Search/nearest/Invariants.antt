-- Only entries that are passed over have been taken so far.
use Rattle.std.proofs.Common.{◌≡◌, length}
use Rattle.search_labels.specs.Labelled.{label_of, settled_of}
use Rattle.step_search.specs.Stepping.{Skips}
use Rattle.step_search.proofs.dijkstra.Search.nearest.Given as goal

abbrev pub invariant-loop-entry : goal.invariant-loop-entry
invariant-loop-entry g l = record {
  skips : Skips g.C.Cost.ops (label_of l.initial.self.labels) (settled_of l.initial.self.labels) l.initial.self.queue l.self.queue;
  label : label_of l.self.labels ≡ label_of l.initial.self.labels;
  settled : settled_of l.self.labels ≡ settled_of l.initial.self.labels;
  tree : l.self.tree.items ≡ l.initial.self.tree.items;
  rows : l.self.rows ≡ l.initial.self.rows;
}

abbrev pub decreases-loop-entry : goal.decreases-loop-entry
decreases-loop-entry g l = length l.self.queue
