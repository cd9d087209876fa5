-- The crate's own: the farthest point by its index, and the loop's step.
use Rattle.std.specs.Prelude.{◌≡◌, ℕ, ◌+◌, List, [], ◌∷◌, ◌++◌, length, Option, Some, None}
use Rattle.road_base.specs.declared.coordinates.Point.{Point}
use Rattle.line_simplify.specs.Simplified.{IsFarthest}

-- of these points the one at this index lies farthest off the line from a to b, beyond the limit
pub record IsFarthestAt (limit : ℕ) (a b : Point) (points : List Point) (at : ℕ) : Type 0 where
  pub before : List Point
  pub point : Point
  pub after : List Point
  pub parts : points ≡ before ++ point ∷ after
  pub index : at ≡ length before
  pub farthest : IsFarthest limit a b before point after

-- what a step from one point that stays makes of what is kept so far and of the stack below the next end, which
-- is the point `to`: with nothing between that end stays and is the next to go on from, else it stays on the
-- stack, and the point at which what lies between is split above it
abbrev pub IsStep : List Point → List Point → List ℕ → List ℕ → ℕ → ℕ → Point → ℕ → Option ℕ → Type 0
IsStep kept after lower ends from to end next None = (next ≡ to) × (after ≡ kept ++ end ∷ []) × (ends ≡ lower)
IsStep kept after lower ends from to end next (Some at) = (next ≡ from) × (after ≡ kept) × (ends ≡ (lower ++ to ∷ []) ++ (from + 1 + at) ∷ [])
