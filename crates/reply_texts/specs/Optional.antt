-- Members that are told where they are asked for.
use Rattle.std.specs.Prelude.{ℕ, Bool, List, Option, Some, None, if◌then◌else◌}
use Rattle.json_text.specs.Values.{JsonValue}
use Rattle.json_text.specs.Wholes.{optional_member}

abbrev pub member_if : Bool → List ℕ → JsonValue → List (List ℕ × JsonValue)
member_if asked name value = optional_member name (if asked then Some value else None)
