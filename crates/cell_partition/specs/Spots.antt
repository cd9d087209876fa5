-- Vertices at their midpoints, and their order along an axis.
use Rattle.std.specs.Prelude.{ℕ, ◌+◌, ℤ, pos, negsuc, ◌-ℤ◌, Bool, List, [], ◌∷◌, fold, if◌then◌else◌}
use Rattle.std.specs.Int.{int_min, int_max}
use Rattle.std.specs.Ordering.{int_cmp, nat_cmp, ordering_then, is_lt}
use Rattle.cell_partition.specs.declared.spot.Spot.{Spot}
use Rattle.cell_partition.specs.declared.spot.Axis.{Axis}
use Rattle.cell_partition.specs.declared.spot.Axis.TheVariants.{Longitude, Latitude}

-- the vertices from this number on at these midpoints, longitude first
abbrev pub spots_from : ℕ → List (ℤ × ℤ) → List Spot
spots_from vertex [] = []
spots_from vertex (midpoint ∷ midpoints) =
    record { vertex = vertex; longitude = midpoint.0; latitude = midpoint.1 } ∷ spots_from (vertex + 1) midpoints

abbrev pub spots_of : List (ℤ × ℤ) → List Spot
spots_of midpoints = spots_from 0 midpoints

-- the coordinate along an axis
abbrev pub along : Axis → Spot → ℤ
along Longitude spot = spot.longitude
along Latitude spot = spot.latitude

-- the greatest coordinate along an axis: none is below -2147483648
abbrev pub greatest : Axis → List Spot → ℤ
greatest axis spots = fold (λ most spot. int_max most (along axis spot)) (negsuc 2147483647) spots

-- the least coordinate along an axis: none is above 2147483647
abbrev pub least : Axis → List Spot → ℤ
least axis spots = fold (λ most spot. int_min most (along axis spot)) (pos 2147483647) spots

-- from the least coordinate along an axis to the greatest
abbrev pub width : Axis → List Spot → ℤ
width axis spots = greatest axis spots -ℤ least axis spots

-- the axis along which the spots lie further apart, longitude on equal widths
abbrev pub wider_axis : List Spot → Axis
wider_axis spots = if is_lt (int_cmp (width Longitude spots) (width Latitude spots)) then Latitude else Longitude

-- whether a spot comes before another along an axis: by its coordinate, then by its vertex
abbrev pub comes_before : Axis → Spot → Spot → Bool
comes_before axis one other = is_lt (ordering_then (int_cmp (along axis one) (along axis other)) (nat_cmp one.vertex other.vertex))
