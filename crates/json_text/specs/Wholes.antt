-- Whole arrays and objects: from the list of what is in them, and written part by part. This project's
-- rule.
use Rattle.std.specs.Prelude.{ℕ, List, [], ◌∷◌, Option, Some, None}
use Rattle.json_text.specs.Values.{JsonValue, array, object, Items, no_items, item, Members, no_members, member}
use Rattle.json_text.specs.Drafts.{Draft, with_key, with_value}

abbrev pub items_of : List JsonValue → Items
items_of [] = no_items
items_of (v ∷ vs) = item v (items_of vs)

abbrev pub members_of : List (List ℕ × JsonValue) → Members
members_of [] = no_members
members_of (m ∷ ms) = member m.0 m.1 (members_of ms)

-- the array of these values
abbrev pub array_of : List JsonValue → JsonValue
array_of vs = array (items_of vs)

-- the object of these members, each a name and a value
abbrev pub object_of : List (List ℕ × JsonValue) → JsonValue
object_of ms = object (members_of ms)

-- a member that may be absent
abbrev pub optional_member : List ℕ → Option JsonValue → List (List ℕ × JsonValue)
optional_member name None = []
optional_member name (Some v) = (name, v) ∷ []

-- a key, and its value behind it
abbrev pub with_member : List ℕ → JsonValue → Draft → Draft
with_member name v d = with_value v (with_key name d)

-- each of these values, from the first on
abbrev pub with_items : List JsonValue → Draft → Draft
with_items [] d = d
with_items (v ∷ vs) d = with_items vs (with_value v d)

-- each of these members, from the first on
abbrev pub with_members : List (List ℕ × JsonValue) → Draft → Draft
with_members [] d = d
with_members (m ∷ ms) d = with_members ms (with_member m.0 m.1 d)
