-- The crate's own: at which point a part of a line is split. A part whose points lie where those of another do is split
-- at the same of them.
use Rattle.std.specs.Prelude.{◌≡◌, ℕ, ◌+◌, ◌-◌, ◌<◌, ◌≤◌, All, IfSome, List, MatchOption, Option, Some, drop, length, take}
use Rattle.std.specs.List.{slice_get}
use Rattle.road_base.specs.declared.coordinates.Point.{Point}
use Rattle.line_simplify.specs.Simplified.{offset_of}
use Rattle.line_simplify.specs.Steps.{IsFarthestAt}
use Rattle.line_simplify.specs.declared.parts.Part.{Part}

-- the points between the one at `from` and the one at `to`
abbrev pub between : List Point → ℕ → ℕ → List Point
between points from to = take (to - (from + 1)) (drop (from + 1) points)

-- of the points between two of a line the one at this index lies farthest off, or none where all lie within the limit
pub record IsSplit (limit : ℕ) (points : List Point) (from to : ℕ) (split : Option ℕ) : Type 0 where
  pub inside : to < length points
  pub index : IfSome split (λ at. from + 1 + at < to)
  pub farthest : (a b : Point) → slice_get points from ≡ Some a → slice_get points to ≡ Some b
      → MatchOption split (All (λ q. offset_of a b q ≤ limit) (between points from to)) (IsFarthestAt limit a b (between points from to))

-- each of these parts is split so
abbrev pub AreSplits : ℕ → List Point → List Part → Type 0
AreSplits limit points parts = (k : ℕ) (part : Part) → slice_get parts k ≡ Some part → IsSplit limit points part.from part.to part.split
