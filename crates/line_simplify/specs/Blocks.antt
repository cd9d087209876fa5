-- The crate's own: extents of points that stand one behind another, and how far off a line what lies within them
-- may be.
use Rattle.std.specs.Prelude.{◌≡◌, ℕ, ◌+◌, ◌/◌, ◌≤ℤ◌, List, Some}
use Rattle.std.specs.List.{slice_get}
use Rattle.road_base.specs.declared.coordinates.Point.{Point}
use Rattle.line_simplify.specs.declared.blocks.Blocks.{Blocks}
use Rattle.line_simplify.specs.declared.extents.Extent.{Extent}

-- a point lies within an extent
pub record HasPoint (extent : Extent) (p : Point) : Type 0 where
  pub west : extent.low.lon ≤ℤ p.lon
  pub east : p.lon ≤ℤ extent.high.lon
  pub south : extent.low.lat ≤ℤ p.lat
  pub north : p.lat ≤ℤ extent.high.lat

-- the extent of this number has the point
abbrev pub HasAt : List Extent → ℕ → Point → Type 0
HasAt extents k p = (extent : Extent) × (slice_get extents k ≡ Some extent) × HasPoint extent p

-- the point of this number lies within its leaf, its block and its group
pub record IsCovered (blocks : Blocks) (i : ℕ) (p : Point) : Type 0 where
  pub leaf : HasAt blocks.leaves.items (i / 16) p
  pub block : HasAt blocks.blocks.items (i / 256) p
  pub group : HasAt blocks.groups.items (i / 4096) p

-- all of these points do, if the first of them has this number
abbrev pub AreCovered : Blocks → ℕ → List Point → Type 0
AreCovered blocks first points = (i : ℕ) (p : Point) → slice_get points i ≡ Some p → IsCovered blocks (first + i) p
