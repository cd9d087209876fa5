use Rattle.std.proofs.Common.{◌≡◌, ℕ, length}
use Rattle.std.specs.Prelude.{Some}
use Rattle.std.specs.List.{slice_get}
use Rattle.snap_index.specs.declared.indexes.Spot.{Spot}
use Rattle.snap_index.proofs.indexes.spots_of.Given as goal

abbrev pub invariant-loop-segment : goal.invariant-loop-segment
invariant-loop-segment l = record {
  count : length l.spots.items ≡ l.segment;
  numbered : (i : ℕ) (spot : Spot) → slice_get l.spots.items i ≡ Some spot → spot.segment ≡ i;
}
