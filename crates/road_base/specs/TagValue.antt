-- What a key of an OpenStreetMap object's tags stands for.
use Rattle.std.specs.Prelude.{ℕ, List, [], ◌∷◌, Option, Some, None, if◌then◌else◌, bytes_eq}

-- the value of the first tag whose key is this one, byte for byte; this project's rule, since
-- OpenStreetMap gives an object at most one tag of a key
abbrev pub value_of : List (List ℕ × List ℕ) → List ℕ → Option (List ℕ)
value_of [] key = None
value_of (tag ∷ tags) key = if bytes_eq tag.0 key then Some tag.1 else value_of tags key
