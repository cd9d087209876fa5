-- The halving rule, on lists: this project's rule.
use Rattle.std.specs.Prelude.{◌≡◌, ℕ, ℤ, ◌+◌, ◌/◌, ◌<◌, ◌≤◌, List, [], ◌∷◌, ◌++◌, length, map}
use Rattle.std.specs.List.Sorted.{IsPermutation, IsSortedBy}
use Rattle.cell_partition.specs.declared.spot.Spot.{Spot}
use Rattle.cell_partition.specs.Spots.{spots_of, comes_before, wider_axis}
use Rattle.cell_partition.specs.Partition.{Partition}

-- the halves of a part: in order along its wider axis, the first has half of the spots, rounded up
pub record AreHalves (part first second : List Spot) : Type 0 where
  pub same : IsPermutation part (first ++ second)
  pub in_order : IsSortedBy (comes_before (wider_axis part)) (first ++ second)
  pub half : length first ≡ (length part + 1) / 2

-- the parts into which a part is halved until each has at most `limit` spots
pub data IsHalved (limit : ℕ) : List Spot → List (List Spot) → Type 0 where
  small : (part : List Spot) → length part ≤ limit → IsHalved limit part (part ∷ [])
  large : (part first second : List Spot) (firsts seconds : List (List Spot)) → limit < length part → AreHalves part first second → IsHalved limit first firsts → IsHalved limit second seconds → IsHalved limit part (firsts ++ seconds)

-- each part is halved on
abbrev pub AreHalved : ℕ → List (List Spot) → List (List Spot) → Type 0
AreHalved limit [] next = next ≡ []
AreHalved limit (part ∷ parts) next =
    (first : List (List Spot)) × (rest : List (List Spot)) × (next ≡ first ++ rest) × IsHalved limit part first × AreHalved limit parts rest

-- the parts of the level above: above the highest level all spots are one part
abbrev pub parts_above : List Spot → List (List (List Spot)) → List (List Spot)
parts_above whole [] = whole ∷ []
parts_above whole (parts ∷ levels) = parts

-- the parts of each level, the lowest level first: those of the level above, halved on
abbrev pub AreLevels : List Spot → List ℕ → List (List (List Spot)) → Type 0
AreLevels whole [] [] = Unit {0}
AreLevels whole (limit ∷ limits) (parts ∷ above) = AreHalved limit (parts_above whole above) parts × AreLevels whole limits above
AreLevels whole _ _ = ⊥

-- the vertices of each part
abbrev pub vertices_of : List (List Spot) → List (List ℕ)
vertices_of parts = map (λ part. map (λ spot. spot.vertex) part) parts

-- the partition of vertices at these midpoints, by these limits
pub record IsHalvedBy (midpoints : List (ℤ × ℤ)) (limits : List ℕ) (p : Partition) : Type 0 where
  pub vertices : p.vertices ≡ length midpoints
  pub levels : (parts : List (List (List Spot))) × AreLevels (spots_of midpoints) limits parts × (p.levels ≡ map vertices_of parts)
