-- The settings of a vehicle as TOML text (toml.io), with the keys, their ranges and the order of faults
-- by this project's rule.
use Rattle.std.specs.Prelude.{◌≡◌, ℕ, Bool, false, not, ◌&&◌, ◌||◌, List, [], ◌∷◌, map, codes, Option, Some, None, is_none, option_map, Result, Ok, Err, find, if◌then◌else◌, ◌⊎◌}
use Rattle.std.specs.Option.{option_map_or}
use Rattle.std.specs.Str.{is_utf8}
use Rattle.toml.specs.Data.{Data, table, Members, get_member}
use Rattle.toml.specs.Parse.{parse_document}
use Rattle.road_base.specs.Words.{is_among}
use Rattle.vehicle_settings.specs.ClassSettings.{bad_classes, is_excludable}
use Rattle.vehicle_settings.specs.SettingsData.{bad_at, bad_inside, entries_of, first_of, inner_key, is_between, is_name, is_one_of, is_text_list, is_truth, members_at}
use Rattle.vehicle_settings.specs.declared.settings_faults.SettingsFault.{SettingsFault}
use Rattle.vehicle_settings.specs.declared.settings_faults.SettingsFault.TheVariants.{NotToml, UnknownKey, Missing, BadValue, Memory}

-- the table that the bytes are, or None where they are no TOML; its keys stand in byte order
unfoldable pub tree_of : List ℕ → Option Members
tree_of bytes = if is_utf8 bytes then parse_document bytes else None

-- the keys that settings of each version may have
abbrev pub common_keys : List (List ℕ)
common_keys =
    codes "version" ∷ codes "name" ∷ codes "vehicle" ∷ codes "weight_name" ∷ codes "speeds" ∷ codes "access_keys"
    ∷ codes "denied" ∷ codes "barriers" ∷ codes "turn_penalty" ∷ codes "u_turn_penalty" ∷ codes "signal_penalty"
    ∷ codes "driving_side" ∷ []

-- the keys that version 2 has besides
abbrev pub second_keys : List (List ℕ)
second_keys = codes "maxspeed" ∷ codes "surfaces" ∷ codes "classes" ∷ codes "excludable" ∷ []

-- the settings say that they are of version 2
abbrev pub is_second : Members → Bool
is_second settings = option_map_or (is_between 2 2) (get_member (codes "version") settings) false

-- a key that these settings may have, by the version that they say
abbrev pub is_known : Members → List ℕ → Bool
is_known settings key = is_among common_keys key || (is_second settings && is_among second_keys key)

-- the keys that `turn_penalty` may have
abbrev pub turn_keys : List (List ℕ)
turn_keys =
    codes "straight" ∷ codes "slight_right" ∷ codes "right" ∷ codes "sharp_right" ∷ codes "uturn"
    ∷ codes "sharp_left" ∷ codes "left" ∷ codes "slight_left" ∷ []

-- the first key of a table that fails the test
abbrev pub key_beside : (List ℕ → Bool) → Members → Option (List ℕ)
key_beside test members = find (λ key. not (test key)) (map (λ e. e.0) (entries_of members))

-- the first unknown key of `turn_penalty`, where that is a table
abbrev pub unknown_turn : Option Data → Option (List ℕ)
unknown_turn (Some (table penalties)) = option_map (λ key. inner_key (codes "turn_penalty") key) (key_beside (is_among turn_keys) penalties)
unknown_turn _ = None

-- the first key that there is no setting of, those of the file before those of `turn_penalty`
abbrev pub unknown_key : Members → Option (List ℕ)
unknown_key settings = first_of (
    key_beside (is_known settings) settings
    ∷ unknown_turn (get_member (codes "turn_penalty") settings)
    ∷ [])

-- the keys that settings must have
abbrev pub required_keys : List (List ℕ)
required_keys = codes "name" ∷ codes "vehicle" ∷ codes "speeds" ∷ []

-- the first of them that is not there
abbrev pub missing_key : Members → Option (List ℕ)
missing_key settings = find (λ key. is_none (get_member key settings)) required_keys

-- a speed in km/h, or a factor in thousandths
abbrev pub is_speed : Data → Bool
is_speed = is_between 1 1000

abbrev pub is_factor : Data → Bool
is_factor = is_between 1 1000

-- a penalty in deciseconds
abbrev pub is_penalty : Data → Bool
is_penalty = is_between 0 1000000

-- what the weight of a road is unless traffic says otherwise
abbrev pub is_weight_name : Data → Bool
is_weight_name = is_one_of (codes "duration" ∷ codes "distance" ∷ [])

-- a side of the road
abbrev pub is_side : Data → Bool
is_side = is_one_of (codes "right" ∷ codes "left" ∷ [])

-- the first of the keys of each version that has a bad value, in this order
abbrev pub bad_common : Members → Option (List ℕ)
bad_common settings = first_of (
    bad_at (is_between 1 2) (codes "version") settings
    ∷ bad_at is_name (codes "name") settings
    ∷ bad_at is_name (codes "vehicle") settings
    ∷ bad_at is_weight_name (codes "weight_name") settings
    ∷ bad_inside is_speed (codes "speeds") settings
    ∷ bad_at is_text_list (codes "access_keys") settings
    ∷ bad_at is_text_list (codes "denied") settings
    ∷ bad_at is_text_list (codes "barriers") settings
    ∷ bad_inside is_penalty (codes "turn_penalty") settings
    ∷ bad_at is_penalty (codes "u_turn_penalty") settings
    ∷ bad_at is_penalty (codes "signal_penalty") settings
    ∷ bad_at is_side (codes "driving_side") settings
    ∷ [])

-- the first of the keys of version 2, in this order
abbrev pub bad_second : Members → Option (List ℕ)
bad_second settings = first_of (
    bad_at is_truth (codes "maxspeed") settings
    ∷ bad_inside is_factor (codes "surfaces") settings
    ∷ bad_classes (get_member (codes "classes") settings)
    ∷ bad_at (is_excludable (members_at (codes "classes") settings)) (codes "excludable") settings
    ∷ [])

-- the first key with a bad value
abbrev pub bad_value : Members → Option (List ℕ)
bad_value settings = first_of (bad_common settings ∷ bad_second settings ∷ [])

-- the numbers of settings are in their ranges
pub record AreNumbersGood (settings : Members) : Type 0 where
  pub speeds : bad_inside is_speed (codes "speeds") settings ≡ None
  pub turn_penalty : bad_inside is_penalty (codes "turn_penalty") settings ≡ None
  pub u_turn_penalty : bad_at is_penalty (codes "u_turn_penalty") settings ≡ None
  pub signal_penalty : bad_at is_penalty (codes "signal_penalty") settings ≡ None
  pub surfaces : bad_inside is_factor (codes "surfaces") settings ≡ None

-- the fault at the key, if there is one, and else what follows
abbrev pub refuse : (List ℕ → SettingsFault) → Option (List ℕ) → Result Members SettingsFault → Result Members SettingsFault
refuse fault (Some key) next = Err (fault key)
refuse fault None next = next

-- a table of settings where it has no fault, and else its first one
unfoldable pub table_or_fault : Members → Result Members SettingsFault
table_or_fault settings =
    refuse UnknownKey (unknown_key settings)
    (refuse Missing (missing_key settings) (refuse BadValue (bad_value settings) (Ok settings)))

-- the table of a settings file where it has no fault, and else its first one
unfoldable pub checked_of : List ℕ → Result Members SettingsFault
checked_of bytes = read (tree_of bytes) where
  read : Option Members → Result Members SettingsFault
  read None = Err NotToml
  read (Some settings) = table_or_fault settings

-- the fault is the one that a definition gives, or want of memory
abbrev pub IsFaultOf : Result Members SettingsFault → SettingsFault → Type 0
IsFaultOf defined fault = (defined ≡ Err fault) ⊎ (fault ≡ Memory)

-- the fault of bytes with this tree before its keys are looked at
abbrev pub IsTreeFault : Option Members → SettingsFault → Type 0
IsTreeFault tree NotToml = tree ≡ None
IsTreeFault tree Memory = Unit {0}
IsTreeFault tree _ = ⊥
