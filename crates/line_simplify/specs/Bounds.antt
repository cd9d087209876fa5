-- The crate's own: how the corners of an extent lie to a line, and how far a point is from its nearest place on it.
use Rattle.std.specs.Prelude.{◌≡◌, ℤ, pos, ◌≤ℤ◌, ◌-ℤ◌, ◌⊎◌, unsigned_abs}
use Rattle.road_base.specs.declared.coordinates.Point.{Point}
use Rattle.geo_integer.specs.Position.{position_of}
use Rattle.geo_integer.specs.Project.{coordinate_at, place_of}
use Rattle.line_simplify.specs.declared.bounds.Chord.{Chord}
use Rattle.line_simplify.specs.declared.bounds.Gap.{Gap}
use Rattle.line_simplify.specs.declared.extents.Extent.{Extent}

-- two differences are both no less than 0, or both no greater
abbrev pub GoAlike : ℤ → ℤ → Type 0
GoAlike g h = ((pos 0 ≤ℤ g) × (pos 0 ≤ℤ h)) ⊎ ((g ≤ℤ pos 0) × (h ≤ℤ pos 0))

-- one is no less, and the other no greater
abbrev pub GoApart : ℤ → ℤ → Type 0
GoApart g h = ((pos 0 ≤ℤ g) × (h ≤ℤ pos 0)) ⊎ ((g ≤ℤ pos 0) × (pos 0 ≤ℤ h))

-- where a line goes both eastwards and northwards, or neither, the corner in the north-west and that in the
-- south-east, else those in the south-west and the north-east
pub record AreOutermost (line : Chord) (extent : Extent) (one other : Point) : Type 0 where
  pub west : one.lon ≡ extent.low.lon
  pub east : other.lon ≡ extent.high.lon
  pub sides : (GoAlike (line.to.lon -ℤ line.from.lon) (line.to.lat -ℤ line.from.lat) × (one.lat ≡ extent.high.lat) × (other.lat ≡ extent.low.lat))
      ⊎ (GoApart (line.to.lon -ℤ line.from.lon) (line.to.lat -ℤ line.from.lat) × (one.lat ≡ extent.low.lat) × (other.lat ≡ extent.high.lat))

-- how far a point lies from its nearest place on a line, along either axis
pub record IsGapOf (line : Chord) (p : Point) (gap : Gap) : Type 0 where
  pub east : gap.east ≡ unsigned_abs (coordinate_at line.from.lon line.to.lon (place_of (position_of p) (position_of line.from) (position_of line.to)) -ℤ p.lon)
  pub north : gap.north ≡ unsigned_abs (coordinate_at line.from.lat line.to.lat (place_of (position_of p) (position_of line.from) (position_of line.to)) -ℤ p.lat)
