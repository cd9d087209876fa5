-- The settings `classes` and `excludable`: classes of ways by their tags, and the sets of classes that a
-- request may exclude (this project's rule).
use Rattle.std.specs.Prelude.{ℕ, Bool, false, not, ◌&&◌, ◌||◌, ◌==◌, nat_le, List, length, codes, Option, Some, None, is_some, option_map, if◌then◌else◌}
use Rattle.std.specs.Char.{is_ascii_digit, is_ascii_lowercase}
use Rattle.std.specs.List.{list_all, list_any}
use Rattle.std.specs.Str.{byte}
use Rattle.toml.specs.Data.{Data, string, table, Members, get_member}
use Rattle.vehicle_settings.specs.SettingsData.{bad_member, entries_of, inner_key, is_list_of, item_count}

-- how many classes, and how many sets of them, settings may have
abbrev pub most_classes : ℕ
most_classes = 8

abbrev pub most_sets : ℕ
most_sets = 7

-- a lower-case letter, a digit or `_`
abbrev pub is_class_letter : ℕ → Bool
is_class_letter b = is_ascii_lowercase b || is_ascii_digit b || (b == byte "_")

-- one or more of them
abbrev pub is_class_name : List ℕ → Bool
is_class_name name = not (length name == 0) && list_all is_class_letter name

abbrev pub is_equals_sign : ℕ → Bool
is_equals_sign b = b == byte "="

-- a text `key=value`
abbrev pub is_tag : Data → Bool
is_tag (string text) = list_any is_equals_sign text
is_tag _ = false

-- a class: its name, and the list of the tags of which one makes a way be of it
abbrev pub is_class : List ℕ → Data → Bool
is_class name tags = is_class_name name && is_list_of is_tag tags

-- of the value at `classes`: that key itself where it is no table or has too many classes, else the first
-- class whose name or list is bad
abbrev pub bad_classes : Option Data → Option (List ℕ)
bad_classes None = None
bad_classes (Some (table classes)) =
    if nat_le (length (entries_of classes)) most_classes
    then option_map (λ name. inner_key (codes "classes") name) (bad_member is_class classes)
    else Some (codes "classes")
bad_classes (Some _) = Some (codes "classes")

-- the name of one of these classes
abbrev pub is_class_of : Members → Data → Bool
is_class_of classes (string name) = is_some (get_member name classes)
is_class_of classes _ = false

-- a list of names of classes that is not empty
abbrev pub is_set : Members → Data → Bool
is_set classes set = not (item_count set == 0) && is_list_of (is_class_of classes) set

-- a list of such sets, not too many
abbrev pub is_excludable : Members → Data → Bool
is_excludable classes sets = nat_le (item_count sets) most_sets && is_list_of (is_set classes) sets
