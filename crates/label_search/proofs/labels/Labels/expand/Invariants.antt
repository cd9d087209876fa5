-- The vertex is held back until each of its arcs has found a label.
use Rattle.std.proofs.Common.{◌≡◌, ℕ, ◌<◌, Some}
use Rattle.std.specs.List.{slice_get}
use Rattle.label_search.specs.Labelled.{Held, IsFront, LabelWithin}
use Rattle.label_search.proofs.labels.Labels.expand.Given as goal

abbrev pub invariant-loop-place : goal.invariant-loop-place
invariant-loop-place g l = record {
  front : IsFront g.C.Cost.ops (g.T.Steps.space l.ground.steps.now) l.start l.self.list l.self.frontier (Held l.entry.vertex l.entry.cost);
  found : (k : ℕ) → k < l.place → (i w : ℕ) (s : g.row.C.Denot) → slice_get l.arcs k ≡ Some i → (g.T.Steps.space l.ground.steps.now).Arc l.entry.vertex i w s → LabelWithin g.C.Cost.ops l.self.list w (g.C.Cost.ops.plus l.entry.cost s);
}
