-- Which directions of a way a vehicle may use, and how fast (this project's rule over OpenStreetMap's
-- tags).
use Rattle.std.specs.Prelude.{ℕ, ◌*◌, ◌/◌, max, Bool, false, not, ◌&&◌, ◌==◌, nat_le, List, length, codes, bytes_eq, Option, Some, None, option_map, if◌then◌else◌}
use Rattle.std.specs.Char.{is_ascii_digit}
use Rattle.std.specs.List.{after_first, before_first, list_all}
use Rattle.std.specs.Option.{option_and_then}
use Rattle.std.specs.Str.{byte}
use Rattle.std.specs.Str.Parse.{digits_value}
use Rattle.road_base.specs.TagValue.{value_of}
use Rattle.way_profile.specs.Vehicle.{ProfileView}
use Rattle.way_profile.specs.WayTags.{is_backward_only, is_denied, is_forward_only, is_round, number_by, values_at}
use Rattle.way_profile.specs.declared.way_uses.WayUse.{WayUse}

-- one to three digits
abbrev pub is_short_number : List ℕ → Bool
is_short_number text = not (length text == 0) && nat_le (length text) 3 && list_all is_ascii_digit text

abbrev pub is_blank : ℕ → Bool
is_blank b = b == byte " "

-- one to three digits, one blank and `mph`
abbrev pub is_in_miles : List ℕ → Bool
is_in_miles text = is_short_number (before_first is_blank text) && bytes_eq (after_first is_blank text) (codes "mph")

-- a value of `maxspeed` in thousandths of km/h, None where it is no number of km/h or of miles per hour
-- (1.609344 km each) in one of these two forms
abbrev pub kmh_of : List ℕ → Option ℕ
kmh_of text =
    if is_short_number text then Some (digits_value 10 text * 1000)
    else (if is_in_miles text then Some (digits_value 10 (before_first is_blank text) * 1609344 / 1000) else None)

-- a limit from 1 to 1000 km/h in place of the speed
abbrev pub limit_or : Option ℕ → ℕ → ℕ
limit_or None speed = speed
limit_or (Some limit) speed = if nat_le 1000 limit && nat_le limit 1000000 then limit else speed

-- the speed on a way where its `maxspeed` counts, if the vehicle heeds it
abbrev pub limited_speed : ProfileView → List (List ℕ × List ℕ) → ℕ → ℕ
limited_speed profile tags speed =
    if profile.maxspeed then limit_or (option_and_then kmh_of (value_of tags (codes "maxspeed"))) speed else speed

-- a speed by a factor in thousandths, but no less than 1 km/h
abbrev pub slowed_by : Option ℕ → ℕ → ℕ
slowed_by None speed = speed
slowed_by (Some factor) speed = max 1000 (speed * factor / 1000)

-- the speed on a way with its `surface`
abbrev pub surfaced : ProfileView → List (List ℕ × List ℕ) → ℕ → ℕ
surfaced profile tags speed = slowed_by (number_by (codes "surface") profile.surfaces tags) speed

-- the speed that a way's `maxspeed`, and then its `surface`, make of that of its kind
abbrev pub speed_by_tags : ProfileView → List (List ℕ × List ℕ) → ℕ → ℕ
speed_by_tags profile tags speed = surfaced profile tags (limited_speed profile tags speed)

-- the use of a way where the vehicle has a speed, and where it has none
abbrev pub use_at : Option ℕ → List (List ℕ × List ℕ) → WayUse
use_at (Some speed) tags = record { forward = not (is_backward_only tags); backward = not (is_forward_only tags); speed = speed; round = is_round tags }
use_at None tags = record { forward = false; backward = false; speed = 0; round = false }

-- the speed of the kind of a way, None where the vehicle may not use it: its kind has no speed, or it is
-- closed to the vehicle
abbrev pub permitted_speed : ProfileView → List (List ℕ × List ℕ) → Option ℕ
permitted_speed profile tags =
    if is_denied profile.denied (values_at tags profile.access_keys) then None else number_by (codes "highway") profile.speeds tags

-- how the vehicle may use a way with these tags
unfoldable pub way_use : ProfileView → List (List ℕ × List ℕ) → WayUse
way_use profile tags = use_at (option_map (speed_by_tags profile tags) (permitted_speed profile tags)) tags
