-- The vertices so far are marked.
use Rattle.std.proofs.Common.{◌≡◌, ℕ, ◌<◌, false, Some}
use Rattle.std.specs.List.{slice_get}
use Rattle.cell_frame.proofs.borders.Border.mark.Given as goal

abbrev pub invariant-loop-place : goal.invariant-loop-place
invariant-loop-place l = (v : ℕ) → slice_get l.marks v ≡ Some false → (slice_get l.initial.marks v ≡ Some false) × ((i : ℕ) → i < l.place → ¬ (slice_get l.self.vertex i ≡ Some v))
