-- None of the targets so far is settled.
use Rattle.std.proofs.Common.{◌≡◌, ℕ, ◌<◌, false, Some}
use Rattle.std.specs.List.{slice_get}
use Rattle.search_labels.specs.Labelled.{settled_of}
use Rattle.step_search.proofs.dijkstra.Search.first_settled.Given as goal

abbrev pub invariant-loop-place : goal.invariant-loop-place
invariant-loop-place g l = (i t : ℕ) → i < l.place → slice_get l.targets i ≡ Some t → settled_of l.self.labels t ≡ false
