-- The profile that a settings file gives (this project's rule).
use Rattle.std.specs.Prelude.{◌≡◌, ℕ, false, List, codes, Result, Ok, Err, ◌⊎◌}
use Rattle.std.specs.Option.{option_map_or}
use Rattle.toml.specs.Data.{Members, get_member}
use Rattle.vehicle_settings.specs.Settings.{checked_of}
use Rattle.vehicle_settings.specs.SettingsData.{members_at}
use Rattle.vehicle_settings.specs.declared.settings_faults.SettingsFault.{SettingsFault}
use Rattle.vehicle_settings.specs.declared.settings_faults.SettingsFault.TheVariants.{Memory}
use Rattle.way_profile.specs.SettingsValues.{classes_of_table, is_true, is_word, number_at, scaled_numbers, sets_at, text_at, texts_at, turn_penalties_of}
use Rattle.way_profile.specs.Vehicle.{ProfileView}

-- what settings with no fault say, speeds in thousandths of km/h; a list or table that is absent is empty, a
-- penalty 0, the weight the duration, the side right, and `maxspeed` false
abbrev pub profile_of : Members → ProfileView
profile_of settings = record {
  name = text_at (codes "name") settings;
  vehicle = text_at (codes "vehicle") settings;
  by_distance = option_map_or (is_word (codes "distance")) (get_member (codes "weight_name") settings) false;
  speeds = scaled_numbers 1000 (members_at (codes "speeds") settings);
  access_keys = texts_at (codes "access_keys") settings;
  denied = texts_at (codes "denied") settings;
  barriers = texts_at (codes "barriers") settings;
  turn_penalties = turn_penalties_of (members_at (codes "turn_penalty") settings);
  u_turn_penalty = number_at (codes "u_turn_penalty") settings;
  signal_penalty = number_at (codes "signal_penalty") settings;
  left_side = option_map_or (is_word (codes "left")) (get_member (codes "driving_side") settings) false;
  maxspeed = option_map_or is_true (get_member (codes "maxspeed") settings) false;
  surfaces = scaled_numbers 1 (members_at (codes "surfaces") settings);
  classes = classes_of_table (members_at (codes "classes") settings);
  excludable = sets_at (codes "excludable") settings;
}

-- the profile that a settings file gives, or its first fault
unfoldable pub settings_of : List ℕ → Result ProfileView SettingsFault
settings_of bytes = said (checked_of bytes) where
  said : Result Members SettingsFault → Result ProfileView SettingsFault
  said (Ok settings) = Ok (profile_of settings)
  said (Err fault) = Err fault

-- what `Profile::read` answers for these bytes, but for want of memory
abbrev pub IsReadAs : List ℕ → Result ProfileView SettingsFault → Type 0
IsReadAs bytes answer = (answer ≡ settings_of bytes) ⊎ (answer ≡ Err Memory)
