-- None of the targets so far is the vertex.
use Rattle.std.proofs.Common.{◌≡◌, ◌≢◌, ℕ, ◌<◌, Some}
use Rattle.std.specs.List.{slice_get}
use Rattle.step_search.proofs.dijkstra.first_place.Given as goal

abbrev pub invariant-loop-place : goal.invariant-loop-place
invariant-loop-place l = (i t : ℕ) → i < l.place → slice_get l.targets i ≡ Some t → t ≢ l.v
