-- Each arc so far finds the label of its head within what it offers.
use Rattle.std.proofs.Common.{◌≡◌, ℕ, ◌<◌, Some}
use Rattle.std.specs.List.{slice_get}
use Rattle.search_labels.specs.Labelled.{label_of, LabelWithin}
use Rattle.step_search.specs.Stepping.{IsAtWork, OnlyFalls}
use Rattle.step_search.proofs.dijkstra.Search.go_along.Given as goal

abbrev pub invariant-loop-place : goal.invariant-loop-place
invariant-loop-place g l = record {
  at_work : IsAtWork g.C.Cost.ops (g.T.Steps.space l.steps) l.self l.at l.node;
  falls : OnlyFalls g.C.Cost.ops l.initial.self l.self;
  rows : l.self.rows ≡ l.initial.self.rows;
  found : (k : ℕ) → k < l.place → (i w : ℕ) (s : g.row.C.Denot) → slice_get l.arcs k ≡ Some i → (g.T.Steps.space l.steps).Arc l.node.vertex i w s → LabelWithin g.C.Cost.ops (label_of l.self.labels) w (g.C.Cost.ops.plus l.node.cost s);
}
