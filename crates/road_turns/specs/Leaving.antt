-- For private functions, and for those who hand what is found from one call to the next: the permitted vertices that leave the nodes of rules, by their ways.
use Rattle.std.specs.Prelude.{◌≡◌, ℕ, ℤ, Bool, true, false, not, List, [], Vec, filter, map}
use Rattle.std.specs.Global.{Global}
use Rattle.std.specs.HashMap.{HashMap, get}
use Rattle.std.specs.List.{flat_map}
use Rattle.std.specs.Option.{option_map_or}
use Rattle.std.specs.Ordering.{int_eq}
use Rattle.std.specs.declared.hash.FoldHasher.{FoldHasher}
use Rattle.std.specs.declared.hash.BuildHasherDefault.{BuildHasherDefault}
use Rattle.turn_rules.specs.Rules.{Rule}
use Rattle.road_turns.specs.Fans.{leavers}
use Rattle.road_turns.specs.RestrictionParts.{has_via, pair_eq}
use Rattle.road_turns.specs.Restrictions.{is_forbidden_at}
use Rattle.road_segments.specs.Vertex.{Vertex}
use Rattle.road_turns.specs.declared.leaving.Run.{Run}

abbrev pub RunMap : Type 0
RunMap = HashMap ℤ (Vec Run Global) (BuildHasherDefault FoldHasher)

abbrev pub GroupMap : Type 0
GroupMap = HashMap (ℤ × ℤ) (Vec ℕ Global) (BuildHasherDefault FoldHasher)

-- the vertices of runs, each with its way
abbrev pub exits_in : List Run → List (ℕ × ℤ)
exits_in runs = flat_map (λ run. map (λ v. (v, run.way)) run.vertices.items) runs

-- the vertices that leave a node, each with its way
abbrev pub leaving_at : RunMap → ℤ → List (ℕ × ℤ)
leaving_at runs node = option_map_or (λ all. exits_in all.items) (get int_eq runs node) []

-- those of one way
abbrev pub group_at : GroupMap → ℤ × ℤ → List ℕ
group_at groups key = option_map_or (λ group. group.items) (get pair_eq groups key) []

-- those that pass a test of their ways
abbrev pub exits_onto : (ℤ → Bool) → List (ℕ × ℤ) → List ℕ
exits_onto test exits = map (λ e. e.0) (filter (λ e. test e.1) exits)

-- each group has those of its way
abbrev pub AreGroups : RunMap → GroupMap → Type 0
AreGroups runs groups = (node way : ℤ) → group_at groups (node, way) ≡ exits_onto (λ w. int_eq w way) (leaving_at runs node)

-- those onto which no rule at the node forbids to turn from a way, but back onto the same segment
abbrev pub open_exits : List Rule → ℤ → ℤ → List (ℕ × ℤ) → List ℕ
open_exits rules node from exits = exits_onto (λ to. not (is_forbidden_at rules node from to false)) exits

-- where a rule stands, all permitted vertices are there
pub record AreLeaving (vs : List Vertex) (rules : List Rule) (runs : RunMap) (groups : GroupMap) : Type 0 where
  pub by_way : AreGroups runs groups
  pub exits : (node : ℤ) → has_via rules node ≡ true → leaving_at runs node ≡ map (λ e. (e.0, e.1.way)) (leavers vs node 0)
