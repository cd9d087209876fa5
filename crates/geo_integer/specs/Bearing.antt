-- Bearings in whole degrees clockwise from north, and how a turn bends.
use Rattle.std.specs.Prelude.{ℕ, ℤ, pos, negsuc, ◌+◌, ◌-◌, ◌*◌, ◌/◌, ◌%◌, min, max, nat_le, ◌==◌, if◌then◌else◌, unsigned_abs, Bool, true, false}
use Rattle.road_base.specs.declared.directions.Modifier.{Modifier}
use Rattle.road_base.specs.declared.directions.Modifier.TheVariants.{Straight, SlightRight, Right, SharpRight, Uturn, SharpLeft, Left, SlightLeft}
use Rattle.geo_integer.specs.Plane.{cosine_between, east_of, north_of}
use Rattle.geo_integer.specs.Position.{Position}

-- the angle, in thousandths of a degree, between a direction and the axis that is nearest to it, from
-- the smaller and the greater part of the direction: 45 m + 15.64 m (1 - m) degrees for their ratio m
-- (this project's rule)
abbrev pub tilt_of : ℕ → ℕ → ℕ
tilt_of minor major = if major == 0 then 0 else (45000 * minor * major + 15640 * minor * (major - minor)) / (major * major)

-- the angle clockwise from north in thousandths of a degree, from the quarters in which the direction
-- lies and its tilt: `steep` where it is nearer to the north-south axis
abbrev pub angle_of : (steep : Bool) → (east north : ℤ) → (tilt : ℕ) → ℕ
angle_of true (pos e) (pos n) tilt = tilt
angle_of true (negsuc e) (pos n) tilt = 360000 - tilt
angle_of true (pos e) (negsuc n) tilt = 180000 - tilt
angle_of true (negsuc e) (negsuc n) tilt = 180000 + tilt
angle_of false (pos e) (pos n) tilt = 90000 - tilt
angle_of false (pos e) (negsuc n) tilt = 90000 + tilt
angle_of false (negsuc e) (pos n) tilt = 270000 + tilt
angle_of false (negsuc e) (negsuc n) tilt = 270000 - tilt

-- the bearing of a direction in whole degrees, 0 to 359
abbrev pub bearing_of_direction : ℤ → ℤ → ℕ
bearing_of_direction east north =
    let e = unsigned_abs east in
    let n = unsigned_abs north in
    let angle = angle_of (nat_le e n) east north (tilt_of (min e n) (max e n)) in
    (angle + 500) / 1000 % 360

-- the bearing from a to b in whole degrees, 0 to 359
abbrev pub bearing_of : Position → Position → ℕ
bearing_of a b = bearing_of_direction (east_of a b (cosine_between a b)) (north_of a b)

-- how a change of bearing by so many degrees clockwise, 0 to 359, bends
abbrev pub bend_of : ℕ → Modifier
bend_of change =
    if nat_le change 20 then Straight
    else if nat_le change 40 then SlightRight
    else if nat_le change 120 then Right
    else if nat_le change 179 then SharpRight
    else if nat_le change 180 then Uturn
    else if nat_le change 239 then SharpLeft
    else if nat_le change 319 then Left
    else if nat_le change 339 then SlightLeft
    else Straight

-- how a turn bends from one bearing to another; a turn back onto the same segment is a u-turn
abbrev pub modifier_of : ℕ → ℕ → Bool → Modifier
modifier_of before after back = if back then Uturn else bend_of ((after + 360 - before) % 360)
