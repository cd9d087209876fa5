-- The JSON values of a reply, and the one compact text of each (RFC 8259, with no blanks; texts are
-- escaped as `serde_json` escapes them).
use Rattle.std.specs.Prelude.{◌≡◌, ℕ, ℤ, Bool, true, false, List, [], ◌∷◌, ◌++◌, codes}
use Rattle.std.specs.Fmt.{signed_decimal}
use Rattle.json.specs.Print.{quoted}
use Rattle.json_text.specs.Numbers.{tenths_text, millionths_text}

-- a value: null, true or false, a text, a whole number, a number of tenths or of millionths, an array of items, or
-- an object of members, each a name and a value
mutual
  pub data JsonValue : Type 0 where
    null : JsonValue
    boolean : Bool → JsonValue
    text : List ℕ → JsonValue
    whole : ℤ → JsonValue
    tenths : ℕ → JsonValue
    millionths : ℤ → JsonValue
    array : Items → JsonValue
    object : Members → JsonValue

  pub data Items : Type 0 where
    no_items : Items
    item : JsonValue → Items → Items

  pub data Members : Type 0 where
    no_members : Members
    member : List ℕ → JsonValue → Members → Members

abbrev pub boolean_text : Bool → List ℕ
boolean_text true = codes "true"
boolean_text false = codes "false"

-- the compact text of a value; commas stand between items and between members
abbrev mutual
  pub compact_text : JsonValue → List ℕ
  compact_text null = codes "null"
  compact_text (boolean b) = boolean_text b
  compact_text (text t) = quoted t
  compact_text (whole z) = signed_decimal z
  compact_text (tenths n) = tenths_text n
  compact_text (millionths z) = millionths_text z
  compact_text (array vs) = 91 ∷ items_text vs ++ 93 ∷ []
  compact_text (object ms) = 123 ∷ members_text ms ++ 125 ∷ []

  pub items_text : Items → List ℕ
  items_text no_items = []
  items_text (item v vs) = compact_text v ++ later_items_text vs

  pub later_items_text : Items → List ℕ
  later_items_text no_items = []
  later_items_text (item v vs) = 44 ∷ compact_text v ++ later_items_text vs

  pub members_text : Members → List ℕ
  members_text no_members = []
  members_text (member k v ms) = quoted k ++ 58 ∷ compact_text v ++ later_members_text ms

  pub later_members_text : Members → List ℕ
  later_members_text no_members = []
  later_members_text (member k v ms) = 44 ∷ quoted k ++ 58 ∷ compact_text v ++ later_members_text ms

-- the list of a longitude and a latitude in microdegrees, with six decimals each (GeoJSON's order,
-- RFC 7946, section 3.1.1)
abbrev pub location : ℤ → ℤ → JsonValue
location lon lat = array (item (millionths lon) (item (millionths lat) no_items))

-- the bytes are the compact text of some value
abbrev pub IsValueText : List ℕ → Type 0
IsValueText bytes = (v : JsonValue) × (bytes ≡ compact_text v)
