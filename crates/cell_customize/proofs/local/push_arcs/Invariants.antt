use Rattle.std.proofs.Common.{◌≡◌, ℕ, ◌<◌, length, Some}
use Rattle.std.specs.List.{slice_get}
use Rattle.cell_customize.specs.Numbers.{Grows, Keeps}
use Rattle.cell_customize.specs.Local.{AreHops}
use Rattle.cell_customize.proofs.local.push_arcs.Given as goal

-- the arcs so far have their hops
abbrev pub invariant-loop-place : goal.invariant-loop-place
invariant-loop-place g l = record {
  grows : Grows (g.T.Steps.space l.steps).vertices l.initial.numbers l.numbers;
  keeps : Keeps l.initial.hops.items l.hops.items;
  hops : AreHops (g.T.Steps.space l.steps) l.u l.numbers l.hops.items (length l.initial.hops.items) (λ arc. (k : ℕ) × (k < l.place) × (slice_get l.arcs k ≡ Some arc));
}
