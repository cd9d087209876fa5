-- A part as halving keeps it, in order along both axes. This serves the crate's own functions alone.
use Rattle.std.specs.Prelude.{ℕ, ◌+◌, ◌*◌, ◌≤◌, ℤ, pos, ◌+ℤ◌, List, map, nat_eq}
use Rattle.std.specs.Int.RustNames.{unsigned_abs}
use Rattle.std.specs.List.{count_by}
use Rattle.std.specs.List.Sorted.{IsPermutation, IsSortedBy}
use Rattle.cell_partition.specs.declared.spot.Spot.{Spot}
use Rattle.cell_partition.specs.declared.spot.Axis.{Axis}
use Rattle.cell_partition.specs.declared.spot.Axis.TheVariants.{Longitude, Latitude}
use Rattle.cell_partition.specs.Spots.{comes_before}

-- one number for a coordinate and a vertex: it goes up with the coordinate, and at one coordinate with the vertex
abbrev pub rank : ℤ → ℕ → ℕ
rank coordinate vertex = unsigned_abs (coordinate +ℤ pos 2147483648) * 4294967296 + vertex

abbrev pub other_axis : Axis → Axis
other_axis Longitude = Latitude
other_axis Latitude = Longitude

-- no two of the spots are of one vertex
abbrev pub AreApart : List Spot → Type 0
AreApart spots = (vertex : ℕ) → count_by (nat_eq vertex) (map (λ spot. spot.vertex) spots) ≤ 1

-- the same spots twice: in order along this axis, and in order along the other
pub record IsInOrder (axis : Axis) (along across : List Spot) : Type 0 where
  pub same : IsPermutation along across
  pub in_order : IsSortedBy (comes_before axis) along
  pub in_order_across : IsSortedBy (comes_before (other_axis axis)) across
  pub apart : AreApart along
