-- For private functions: the turns from one vertex in parts: whether the vehicle can only turn back at its end, and where else it
-- may go.
use Rattle.std.specs.Prelude.{◌≡◌, ℕ, ℤ, Vec, Some, ◌==◌, Bool, false, not, ◌&&◌, ◌||◌, List, [], length, map, filter}
use Rattle.std.specs.Global.{Global}
use Rattle.std.specs.HashMap.{HashMap, get}
use Rattle.std.specs.List.{slice_get}
use Rattle.std.specs.Option.{option_map_or}
use Rattle.std.specs.declared.hash.FoldHasher.{FoldHasher}
use Rattle.std.specs.declared.hash.BuildHasherDefault.{BuildHasherDefault}
use Rattle.turn_rules.specs.Rules.{Rule}
use Rattle.road_turns.specs.Fans.{leavers}
use Rattle.road_turns.specs.Leaving.{RunMap, leaving_at, open_exits}
use Rattle.road_turns.specs.RestrictionParts.{pair_eq}
use Rattle.road_turns.specs.Restrictions.{is_forbidden, is_forbidden_at}
use Rattle.road_turns.specs.Turn.{exits}
use Rattle.road_segments.specs.Vertex.{Vertex, opposite}

-- nothing else leaves the head of v, or it is closed
abbrev pub must_turn_back : List Vertex → ℕ → Bool
must_turn_back vs v = (exits vs v == 0) || option_map_or (λ x. x.closed) (slice_get vs v) false

-- the other direction of v's segment is permitted, and no rule forbids to turn onto it
abbrev pub may_turn_back : List Vertex → List Rule → ℕ → Bool
may_turn_back vs rules v =
    option_map_or (λ x. option_map_or (λ y. y.permitted && not (is_forbidden rules (v, x) (opposite v, y))) (slice_get vs (opposite v)) false) (slice_get vs v) false

-- the other direction of v's segment is permitted, and no rule forbids to turn onto its way; `back` says that the turn goes back
-- onto the segment
abbrev pub opens_back : List Vertex → List Rule → ℕ → Bool → Bool
opens_back vs rules v back =
    option_map_or (λ x. option_map_or (λ y. y.permitted && not (is_forbidden_at rules x.head x.way y.way back)) (slice_get vs (opposite v)) false) (slice_get vs v) false

-- e is not the other direction of v's segment, and no rule forbids to turn onto it
abbrev pub may_turn_on : List Vertex → List Rule → ℕ → ℕ → Bool
may_turn_on vs rules v e =
    not (e == opposite v) && option_map_or (λ x. option_map_or (λ y. not (is_forbidden rules (v, x) (e, y))) (slice_get vs e) false) (slice_get vs v) false

-- the turns from v onto those that leave its head, but for the other direction of its segment
abbrev pub turns_on : List Vertex → List Rule → ℕ → List (ℕ × ℕ)
turns_on vs rules v = option_map_or (λ x. map (λ e. (v, e.0)) (filter (λ e. may_turn_on vs rules v e.0) (leavers vs x.head 0))) (slice_get vs v) []

-- the turns from v onto those of these that are not the other direction of its segment
abbrev pub turns_onto : ℕ → List ℕ → List (ℕ × ℕ)
turns_onto v exits = map (λ e. (v, e)) (filter (λ e. not (e == opposite v)) exits)

-- those onto all that leave its head
abbrev pub turns_onto_all : List Vertex → ℕ → List (ℕ × ℕ)
turns_onto_all vs v = option_map_or (λ x. map (λ e. (v, e.0)) (filter (λ e. not (e.0 == opposite v)) (leavers vs x.head 0))) (slice_get vs v) []

abbrev pub RowMap : Type 0
RowMap = HashMap (ℤ × ℤ) (Vec ℕ Global) (BuildHasherDefault FoldHasher)

-- each row has those onto which no rule at the node forbids to turn from the way
abbrev pub AreOpenRows : List Rule → RunMap → RowMap → Type 0
AreOpenRows rules runs rows = (node way : ℤ) (row : Vec ℕ Global) → get pair_eq rows (node, way) ≡ Some row → row.items ≡ open_exits rules node way (leaving_at runs node)

abbrev pub CountMap : Type 0
CountMap = HashMap (ℤ × ℤ) ℕ (BuildHasherDefault FoldHasher)

-- each count is that of these
abbrev pub AreOpenCounts : List Rule → RunMap → CountMap → Type 0
AreOpenCounts rules runs counts = (node way : ℤ) (n : ℕ) → get pair_eq counts (node, way) ≡ Some n → n ≡ length (open_exits rules node way (leaving_at runs node))
