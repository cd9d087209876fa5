-- What was cleared has nothing.
use Rattle.step_search.proofs.dijkstra.Search.restart.Goals as goal

pub begin_all-requires-clause-fresh : goal.begin_all-requires-clause-fresh
begin_all-requires-clause-fresh g c = record {
  tree = c.clear.ensures.items;
  unlabelled = c.clear-2.ensures.label;
  unsettled = c.clear-2.ensures.settled;
  queue = c.clear-3.ensures;
  rows = c.clear-4.ensures;
}
