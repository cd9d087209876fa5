-- The grammar read from the left, as a function from a text to its points or the offset of its first fault. That
-- it says what `Grammar` says is a law, which `reading_is_the_grammar` has.
use Rattle.std.specs.Prelude.{ℕ, suc, zero, ℤ, pos, ◌+◌, ◌-◌, ◌*◌, Bool, ◌&&◌, List, [], ◌∷◌, ◌++◌, length, drop, nat_lt, nat_le, if◌then◌else◌, Result, Ok, Err}
use Rattle.polyline_text.specs.Grammar.{Path, moved, fits_32}

-- the last group of a value
abbrev pub is_last_group : ℕ → Bool
is_last_group b = nat_le 63 b && nat_lt b 95

-- a group that another one follows
abbrev pub is_group_with_more : ℕ → Bool
is_group_with_more b = nat_le 95 b && nat_lt b 127

-- a value behind a group of five bits, with the bytes that it took, or the offset of a fault
abbrev pub behind_group : ℕ → Result (ℕ × ℕ) ℕ → Result (ℕ × ℕ) ℕ
behind_group bits (Ok (n, taken)) = Ok (bits + 32 * n, taken + 1)
behind_group bits (Err offset) = Err (offset + 1)

-- the value at the front of the bytes, of at most so many groups, and how many bytes it takes; or
-- the offset of the first byte that is no group or one group too many, or of the text's end
unfoldable pub value_in : ℕ → List ℕ → Result (ℕ × ℕ) ℕ
value_in groups [] = Err 0
value_in zero (b ∷ bytes) = Err 0
value_in (suc groups) (b ∷ bytes) =
    if is_last_group b then Ok (b - 63, 1)
    else (if is_group_with_more b then behind_group (b - 95) (value_in groups bytes) else Err 0)

-- it has to fit; the fault is at the value's last byte
abbrev pub checked : ℤ → ℕ → Result (ℤ × ℕ) ℕ
checked sum taken = if fits_32 sum then Ok (sum, taken) else Err (taken - 1)

abbrev pub moved_by : ℕ → ℤ → Result (ℕ × ℕ) ℕ → Result (ℤ × ℕ) ℕ
moved_by digits sum (Ok (n, taken)) = checked (moved digits sum n) taken
moved_by digits sum (Err offset) = Err offset

-- the coordinate at the front of the bytes, behind the one before it
abbrev pub coordinate_in : ℕ → ℤ → List ℕ → Result (ℤ × ℕ) ℕ
coordinate_in digits sum bytes = moved_by digits sum (value_in 7 bytes)

-- a longitude behind its latitude: the point, longitude first, with the bytes that both took
abbrev pub with_latitude : ℤ → ℕ → Result (ℤ × ℕ) ℕ → Result (ℤ × ℤ × ℕ) ℕ
with_latitude lat before (Ok (lon, taken)) = Ok (lon, lat, before + taken)
with_latitude lat before (Err offset) = Err (before + offset)

abbrev pub longitude_behind : ℕ → ℤ → List ℕ → Result (ℤ × ℕ) ℕ → Result (ℤ × ℤ × ℕ) ℕ
longitude_behind digits lon bytes (Ok (lat, taken)) = with_latitude lat taken (coordinate_in digits lon (drop taken bytes))
longitude_behind digits lon bytes (Err offset) = Err offset

-- the point at the front of the bytes, behind the one before it
abbrev pub point_in : ℕ → ℤ → ℤ → List ℕ → Result (ℤ × ℤ × ℕ) ℕ
point_in digits lon lat bytes = longitude_behind digits lon bytes (coordinate_in digits lat bytes)

-- these points and then others, which stand so many bytes further on
abbrev pub behind_points : Path → ℕ → Result Path ℕ → Result Path ℕ
behind_points points taken (Ok others) = Ok (points ++ others)
behind_points points taken (Err offset) = Err (taken + offset)

abbrev pub points_behind : (ℤ → ℤ → List ℕ → Result Path ℕ) → List ℕ → Result (ℤ × ℤ × ℕ) ℕ → Result Path ℕ
points_behind others bytes (Ok (lon, lat, taken)) = behind_points ((lon, lat) ∷ []) taken (others lon lat (drop taken bytes))
points_behind others bytes (Err offset) = Err offset

-- the points up to the end of the bytes, at most so many, behind one
unfoldable pub points_in : ℕ → ℕ → ℤ → ℤ → List ℕ → Result Path ℕ
points_in zero digits lon lat bytes = Ok []
points_in (suc most) digits lon lat [] = Ok []
points_in (suc most) digits lon lat (b ∷ bytes) =
    points_behind (points_in most digits) (b ∷ bytes) (point_in digits lon lat (b ∷ bytes))

-- the points of a text, which begins at 0, 0 and has no more points than bytes; or the offset of
-- its first fault
abbrev pub decoded : ℕ → List ℕ → Result Path ℕ
decoded digits bytes = points_in (length bytes) digits (pos 0) (pos 0) bytes
