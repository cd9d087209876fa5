-- None of the targets so far has a label.
use Rattle.std.proofs.Common.{◌≡◌, ℕ, ◌<◌, None, Some}
use Rattle.std.specs.List.{slice_get}
use Rattle.search_labels.specs.Labelled.{label_of}
use Rattle.step_search.proofs.dijkstra.Search.first_labelled.Given as goal

abbrev pub invariant-loop-place : goal.invariant-loop-place
invariant-loop-place g l = (i t : ℕ) → i < l.place → slice_get l.targets i ≡ Some t → label_of l.self.labels t ≡ None
