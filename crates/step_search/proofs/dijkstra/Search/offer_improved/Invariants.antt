-- Each improved place so far finds the label of its head within what it offers.
use Rattle.std.proofs.Common.{◌≡◌, ℕ, ◌<◌, [], Some}
use Rattle.std.specs.List.{slice_get}
use Rattle.search_labels.specs.Labelled.{label_of, LabelWithin}
use Rattle.step_search.specs.Stepping.{IsAtWork, OnlyGrows}
use Rattle.step_search.proofs.dijkstra.Search.offer_improved.Given as goal

abbrev pub invariant-loop-k : goal.invariant-loop-k
invariant-loop-k g l = record {
  at_work : IsAtWork g.C.Cost.ops (g.T.Steps.space l.steps) l.self l.at l.node;
  grows : OnlyGrows g.C.Cost.ops (g.T.Steps.space l.steps) [] l.initial.self l.self;
  rows : l.self.rows ≡ l.initial.self.rows;
  found : (i : ℕ) → i < l.k → (j w : ℕ) (s : g.row.C.Denot) → slice_get l.initial.self.rows.improved.items i ≡ Some j → slice_get l.places.heads.now j ≡ Some w → slice_get l.places.costs.now j ≡ Some (Some s) → LabelWithin g.C.Cost.ops (label_of l.self.labels) w (g.C.Cost.ops.plus l.node.cost s);
}
