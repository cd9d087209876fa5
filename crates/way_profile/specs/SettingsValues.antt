-- What the values of a tree of settings stand for where none is bad (TOML's data, toml.io; this project's rule).
use Rattle.std.specs.Prelude.{ℕ, ◌*◌, pos, Bool, false, List, [], ◌∷◌, map, codes}
use Rattle.std.specs.List.{after_first, before_first}
use Rattle.std.specs.Option.{option_map_or}
use Rattle.toml.specs.Data.{Data, string, integer, boolean, array, Members, get_member}
use Rattle.vehicle_settings.specs.ClassSettings.{is_equals_sign}
use Rattle.vehicle_settings.specs.SettingsData.{entries_of, is_one_of, values_of}
use Rattle.way_profile.specs.declared.turn_penalties.TurnPenalties.{TurnPenalties}

-- the text of a value
abbrev pub text_in : Data → List ℕ
text_in (string text) = text
text_in _ = []

abbrev pub text_at : List ℕ → Members → List ℕ
text_at key settings = option_map_or text_in (get_member key settings) []

-- the texts of a list
abbrev pub texts_in : Data → List (List ℕ)
texts_in (array items) = map text_in (values_of items)
texts_in _ = []

abbrev pub texts_at : List ℕ → Members → List (List ℕ)
texts_at key settings = option_map_or texts_in (get_member key settings) []

-- the number of a value
abbrev pub number_in : Data → ℕ
number_in (integer (pos n)) = n
number_in _ = 0

-- the number at a key, 0 where it is absent
abbrev pub number_at : List ℕ → Members → ℕ
number_at key settings = option_map_or number_in (get_member key settings) 0

-- the keys of a table, each with so many times its number
abbrev pub scaled_numbers : ℕ → Members → List (List ℕ × ℕ)
scaled_numbers scale members = map (λ e. (e.0, number_in e.1 * scale)) (entries_of members)

-- the value is `true`
abbrev pub is_true : Data → Bool
is_true (boolean b) = b
is_true _ = false

-- the value is this text
abbrev pub is_word : List ℕ → Data → Bool
is_word word = is_one_of (word ∷ [])

-- the penalties of a table in deciseconds
abbrev pub turn_penalties_of : Members → TurnPenalties
turn_penalties_of penalties = record {
  straight = number_at (codes "straight") penalties;
  slight_right = number_at (codes "slight_right") penalties;
  right = number_at (codes "right") penalties;
  sharp_right = number_at (codes "sharp_right") penalties;
  uturn = number_at (codes "uturn") penalties;
  sharp_left = number_at (codes "sharp_left") penalties;
  left = number_at (codes "left") penalties;
  slight_left = number_at (codes "slight_left") penalties;
}

-- the key and the value of an entry of a class: what stands before and behind its first `=`
abbrev pub tag_of : List ℕ → List ℕ × List ℕ
tag_of text = (before_first is_equals_sign text, after_first is_equals_sign text)

-- the classes of a table: the name of each, and its tags as keys and values
abbrev pub classes_of_table : Members → List (List ℕ × List (List ℕ × List ℕ))
classes_of_table classes = map (λ e. (e.0, map tag_of (texts_in e.1))) (entries_of classes)

-- the sets of a list, each the names of its classes
abbrev pub sets_in : Data → List (List (List ℕ))
sets_in (array sets) = map texts_in (values_of sets)
sets_in _ = []

abbrev pub sets_at : List ℕ → Members → List (List (List ℕ))
sets_at key settings = option_map_or sets_in (get_member key settings) []
