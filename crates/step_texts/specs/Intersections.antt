-- What is told of the nodes along a step (the `intersections` of OSRM's HTTP API, version 1).
use Rattle.std.specs.Prelude.{ℕ, pos, Bool, List, ◌∷◌, ◌++◌, Option, option_map, codes, map}
use Rattle.json_text.specs.Values.{JsonValue, boolean, whole}
use Rattle.json_text.specs.Wholes.{array_of, object_of, optional_member}
use Rattle.route_steps.specs.declared.intersection_lists.Intersection.{Intersection}
use Rattle.step_texts.specs.Lines.{point_value}

-- whole degrees
unfoldable pub bearings_value : List ℕ → JsonValue
bearings_value bearings = array_of (map (λ bearing. whole (pos bearing)) bearings)

unfoldable pub entries_value : List Bool → JsonValue
entries_value entries = array_of (map boolean entries)

-- which of the bearings it is, where there is one
abbrev pub index_member : List ℕ → Option ℕ → List (List ℕ × JsonValue)
index_member name index = optional_member name (option_map (λ k. whole (pos k)) index)

-- the bearings of all that leaves the node, and which of them may be entered; by which of them the driver comes, and by
-- which he goes on
unfoldable pub intersection_value : Intersection → JsonValue
intersection_value node = object_of (
    (codes "location", point_value node.location)
    ∷ (codes "bearings", bearings_value node.bearings)
    ∷ (codes "entry", entries_value node.entry)
    ∷ (index_member (codes "in") node.enter ++ index_member (codes "out") node.leave)
    )
