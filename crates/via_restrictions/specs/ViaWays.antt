-- Turn restrictions over via ways (OpenStreetMap's relations of type restriction with ways in the role via; which of them
-- say nothing in a network is this project's rule): which sequences of vertices they forbid.
use Rattle.std.specs.Prelude.{ℕ, ℤ, ◌%◌, ◌==◌, Bool, true, false, not, ◌&&◌, List, [], ◌∷◌, ◌++◌, length, map, filter, reverse, sum_by, count_by, nat_le, nat_lt, if◌then◌else◌}
use Rattle.std.specs.Cmp.Lexicographic.{pointwise}
use Rattle.std.specs.List.{enumerate_from, flat_map, list_all, list_any, position_or_len, slice_get}
use Rattle.std.specs.Option.{option_map_or}
use Rattle.std.specs.Ordering.{int_eq}
use Rattle.turn_rules.specs.Rules.{Rule, RulesView, ViaRule}
use Rattle.road_turns.specs.Turn.{is_turn, numbered}
use Rattle.road_segments.specs.Segment.{Segment}
use Rattle.road_segments.specs.Vertex.{Vertex, opposite, vertices}
use Rattle.via_paths.specs.Forbidden.{last_of}

-- e may follow d: both are vertices, and the pair is a turn
abbrev pub may_follow : List Vertex → List Rule → ℕ → ℕ → Bool
may_follow vs rules d e = option_map_or (λ x. option_map_or (λ y. is_turn vs rules (d, x) (e, y)) (slice_get vs e) false) (slice_get vs d) false

-- each vertex of the list but the first may follow the one before it
abbrev pub follow : List Vertex → List Rule → List ℕ → Bool
follow vs rules [] = true
follow vs rules (d ∷ []) = true
follow vs rules (d ∷ e ∷ path) = may_follow vs rules d e && follow vs rules (e ∷ path)

-- e begins at the node where d ends
abbrev pub meet : List Vertex → ℕ → ℕ → Bool
meet vs d e = option_map_or (λ x. option_map_or (λ y. int_eq y.tail x.head) (slice_get vs e) false) (slice_get vs d) false

-- the numbers of the vertices that pass a test
abbrev pub those : (ℕ × Vertex → Bool) → List Vertex → List ℕ
those test vs = map (λ e. e.0) (filter test (numbered vs))

-- the segments of a way in its direction, and the other way round
abbrev pub along : List Vertex → ℤ → List ℕ
along vs way = those (λ e. (e.0 % 2 == 0) && int_eq e.1.way way) vs

abbrev pub against : List ℕ → List ℕ
against run = reverse (map opposite run)

-- these segments of a way are some, and do not end where they begin
abbrev pub is_open : List Vertex → List ℕ → Bool
is_open vs [] = false
is_open vs (v ∷ run) = not (meet vs (last_of (v ∷ run)) v)

-- how many vertices there are on ways one after the other, each from one end to the other
abbrev pub length_through : List Vertex → List ℤ → ℕ
length_through vs via = sum_by (λ way. length (along vs way)) via

-- the ways one after the other, each whole and in one direction or the other
abbrev pub paths_through : List Vertex → List ℤ → List (List ℕ)
paths_through vs [] = [] ∷ []
paths_through vs (way ∷ via) =
    map (λ path. along vs way ++ path) (paths_through vs via) ++ map (λ path. against (along vs way) ++ path) (paths_through vs via)

-- the most vertices of a path
abbrev pub most_on_path : ℕ
most_on_path = 64

-- there are paths through the ways: each has two ends, and they aren't too long
abbrev pub are_passable : List Vertex → List ℤ → Bool
are_passable vs via = list_all (λ way. is_open vs (along vs way)) via && nat_le (length_through vs via) most_on_path

-- the paths of a rule through its via ways: on each a vertex may follow the one before
abbrev pub paths_of : List Vertex → List Rule → List ℤ → List (List ℕ)
paths_of vs rules via = if are_passable vs via then filter (follow vs rules) (paths_through vs via) else []

-- the first vertex
abbrev pub first_of : List ℕ → ℕ
first_of [] = 0
first_of (v ∷ path) = v

-- the vertices of a way from which one may come onto the path, in the order of their other directions
abbrev pub starts : List Vertex → List Rule → ℤ → List ℕ → List ℕ
starts vs rules from path = map opposite (those (λ e. int_eq e.1.way from && may_follow vs rules (opposite e.0) (first_of path)) vs)

-- the vertices onto which one may leave the path
abbrev pub exits_of : List Vertex → List Rule → List ℕ → List ℕ
exits_of vs rules path = those (λ e. may_follow vs rules (last_of path) e.0) vs

-- the vertex is of a way that passes the test
abbrev pub is_onto : List Vertex → (ℤ → Bool) → ℕ → Bool
is_onto vs test e = option_map_or (λ y. test y.way) (slice_get vs e) false

-- the rule forbids to go on onto the way
abbrev pub shuts : ViaRule → ℤ → Bool
shuts rule way = if rule.only then not (int_eq rule.to way) else int_eq rule.to way

-- the ways on which one is under the rule, in their order: the one that it comes from, and its via ways
abbrev pub course : ViaRule → List ℤ
course rule = rule.from ∷ rule.via

-- rules of one course are taken together: the number of the first of them
abbrev pub first_like : List ViaRule → List ℤ → ℕ
first_like all ways = position_or_len (λ rule. pointwise int_eq (course rule) ways) all

-- a rule of the course of this number forbids to go on onto the way
abbrev pub is_shut : List ViaRule → ℕ → ℤ → Bool
is_shut all number way = list_any (λ rule. (first_like all (course rule) == number) && shuts rule way) all

-- the sequences that the rules of the course of this number forbid along a path: by the start, and then by the end
abbrev pub words_along : List Vertex → List Rule → List ViaRule → ℕ × ViaRule → List ℕ → List (List ℕ)
words_along vs rules all e path =
    flat_map (λ d. map (λ f. d ∷ (path ++ f ∷ [])) (filter (is_onto vs (is_shut all e.0)) (exits_of vs rules path))) (starts vs rules e.1.from path)

-- those along all of its paths
abbrev pub words_under : List Vertex → List Rule → List ViaRule → ℕ × ViaRule → List (List ℕ)
words_under vs rules all e = flat_map (words_along vs rules all e) (paths_of vs rules e.1.via)

-- the first rules of their courses, with their numbers
abbrev pub firsts : List ViaRule → List (ℕ × ViaRule)
firsts all = filter (λ e. first_like all (course e.1) == e.0) (enumerate_from 0 all)

-- the sequences of vertices that rules over via ways forbid, course by course
abbrev pub forbidden_words : List Vertex → List Rule → List ViaRule → List (List ℕ)
forbidden_words vs rules all = flat_map (words_under vs rules all) (firsts all)

-- the vertices onto which one may come along a path of a rule
abbrev pub ends_along : List Vertex → List Rule → ViaRule → List ℕ → List ℕ
ends_along vs rules rule path = if nat_lt 0 (length (starts vs rules rule.from path)) then exits_of vs rules path else []

-- along all of its paths
abbrev pub ends_of : List Vertex → List Rule → ViaRule → List ℕ
ends_of vs rules rule = flat_map (ends_along vs rules rule) (paths_of vs rules rule.via)

-- the rule forbids a sequence
abbrev pub forbids_some : List Vertex → List Rule → ViaRule → Bool
forbids_some vs rules rule = list_any (is_onto vs (shuts rule)) (ends_of vs rules rule)

-- the sequences of vertices that the rules over via ways forbid on these segments
unfoldable pub forbidden_on : List Segment → RulesView → List (List ℕ)
forbidden_on segments rules = forbidden_words (vertices segments) rules.kept rules.along

-- how many rules over via ways forbid a sequence there, and so apply
unfoldable pub applied_along : List Segment → RulesView → ℕ
applied_along segments rules = count_by (forbids_some (vertices segments) rules.kept) rules.along

-- and how many forbid none
unfoldable pub ignored_along : List Segment → RulesView → ℕ
ignored_along segments rules = count_by (λ rule. not (forbids_some (vertices segments) rules.kept rule)) rules.along
