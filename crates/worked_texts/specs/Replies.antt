-- The parts of a worked reply, as values. This project's rule.
use Rattle.std.specs.Prelude.{List, [], ◌∷◌, pos, codes}
use Rattle.json_text.specs.Values.{JsonValue, null, whole, tenths}
use Rattle.json_text.specs.Wholes.{array_of, object_of}

-- the numbers of two nodes
abbrev pub two_nodes : JsonValue
two_nodes = array_of (whole (pos 1) ∷ whole (pos 2) ∷ [])

-- a place between them, with no distance
abbrev pub place : JsonValue
place = object_of ((codes "nodes", two_nodes) ∷ (codes "distance", tenths 0) ∷ [])

-- a row of a table: no time, and no walk
abbrev pub row : JsonValue
row = array_of (tenths 0 ∷ null ∷ [])
