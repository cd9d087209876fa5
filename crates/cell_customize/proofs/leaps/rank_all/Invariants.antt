use Rattle.std.proofs.Common.{◌≡◌, ℕ, Some, length}
use Rattle.std.specs.List.{slice_get}
use Rattle.cell_customize.specs.Leaping.{IsRankOf}
use Rattle.cell_customize.proofs.leaps.rank_all.Given as goal

-- the hops so far have their ranks
abbrev pub invariant-loop-place : goal.invariant-loop-place
invariant-loop-place g l = record {
  size : length l.ranks.items ≡ l.place;
  each : (i : ℕ) (hop : _) (arc : _) → slice_get l.hops i ≡ Some hop → slice_get l.ranks.items i ≡ Some arc → IsRankOf g.C.Cost.ops g.C.Cost.ranked hop arc;
}
