use Rattle.std.proofs.Common.{◌≡◌, ℕ, ◌+◌, ◌<◌, Some}
use Rattle.std.specs.List.{slice_get}
use Rattle.cell_customize.proofs.local.has_heads.Given as goal

-- the numbers of the vertices so far stand there
abbrev pub invariant-loop-place : goal.invariant-loop-place
invariant-loop-place l = (k v : ℕ) → k < l.place → slice_get l.vertices k ≡ Some v → (b : ℕ) × (slice_get l.heads (l.from + k) ≡ Some b) × (slice_get l.numbers b ≡ Some v)
