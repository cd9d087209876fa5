-- For private functions: how the sequences that rules over via ways forbid are found.
use Rattle.std.specs.Prelude.{◌≡◌, ℕ, ℤ, ◌<◌, ◌==◌, Bool, true, false, ◌&&◌, ◌||◌, if◌then◌else◌, List, [], All, Some, Vec, length, map}
use Rattle.std.specs.Cmp.Lexicographic.{pointwise}
use Rattle.std.specs.Global.{Global}
use Rattle.std.specs.HashMap.{HashMap, get}
use Rattle.std.specs.HashSet.{contains}
use Rattle.std.specs.List.{list_any, slice_get}
use Rattle.std.specs.Option.{option_map_or}
use Rattle.std.specs.Ordering.{int_eq}
use Rattle.std.specs.declared.hash.FoldHasher.{FoldHasher}
use Rattle.std.specs.declared.hash.BuildHasherDefault.{BuildHasherDefault}
use Rattle.turn_rules.specs.Rules.{HasVias, Rule, ViaRule, is_among}
use Rattle.road_turns.specs.DepartureParts.{AreDepartures}
use Rattle.road_turns.specs.Fans.{AreExits}
use Rattle.road_turns.specs.Restrictions.{is_forbidden}
use Rattle.road_turns.specs.RestrictionParts.{NodeSet}
use Rattle.via_restrictions.specs.ViaWays.{along, course, ends_of, first_like, is_onto, is_shut, may_follow, shuts}
use Rattle.via_restrictions.specs.WaySets.{FirstMap, MemberSet, has_other, has_way}
use Rattle.road_segments.specs.Segment.{Segment}
use Rattle.road_segments.specs.Vertex.{Vertex, opposite, vertices}

-- a rule at the head of d forbids to go on to e
abbrev pub forbid_onto : List Vertex → List Rule → ℕ → ℕ → Bool
forbid_onto vs rules d e = option_map_or (λ x. option_map_or (λ y. is_forbidden rules (d, x) (e, y)) (slice_get vs e) false) (slice_get vs d) false

-- the other direction of e is of the way, and may be followed by the first vertex of a path
abbrev pub comes_from : List Vertex → List Rule → ℤ → ℕ → ℕ → Bool
comes_from vs rules from first e = is_onto vs (λ way. int_eq way from) e && may_follow vs rules (opposite e) first

-- lists that are kept as vectors
abbrev pub lists_in : List (Vec ℕ Global) → List (List ℕ)
lists_in vectors = map (λ v. v.items) vectors

abbrev pub AlongMap : Type 0
AlongMap = HashMap ℤ (Vec ℕ Global) (BuildHasherDefault FoldHasher)

-- the vertices along a way; none where it has no entry
abbrev pub along_in : AlongMap → ℤ → List ℕ
along_in map way = option_map_or (λ run. run.items) (get int_eq map way) []

-- each way of these has the vertices along it
abbrev pub AreAlong : List Vertex → NodeSet → AlongMap → Type 0
AreAlong vs ways map = (way : ℤ) → contains int_eq ways way ≡ true → along_in map way ≡ along vs way

abbrev pub CourseMap : Type 0
CourseMap = HashMap (Vec ℤ Global) ℕ (BuildHasherDefault FoldHasher)

abbrev pub ways_eq : Vec ℤ Global → Vec ℤ Global → Bool
ways_eq a b = pointwise int_eq a.items b.items

-- the number of a course; one without an entry has the number behind all
abbrev pub number_in : CourseMap → ℕ → Vec ℤ Global → ℕ
number_in map none ways = option_map_or (λ number. number) (get ways_eq map ways) none

-- each course has the number of the first rule of it
abbrev pub AreNumbers : List ViaRule → CourseMap → Type 0
AreNumbers all map = (ways : Vec ℤ Global) → number_in map (length all) ways ≡ first_like all ways.items

-- by these sets, to go onto the way is forbidden
abbrev pub shut_in : MemberSet → FirstMap → ℕ → ℤ → Bool
shut_in forbidden only number way = has_way forbidden number way || has_other only number way

-- they forbid what the rules do
abbrev pub AreShut : List ViaRule → MemberSet → FirstMap → Type 0
AreShut all forbidden only = (number : ℕ) (way : ℤ) → shut_in forbidden only number way ≡ is_shut all number way

-- what the sequences of rules over via ways are found by belongs to one network
pub record AreViaParts (segments : List Segment) (rules : List Rule) (exits order : List ℕ) (all : List ViaRule) (ways : NodeSet) (runs : AlongMap) (courses : CourseMap) (forbidden : MemberSet) (only : FirstMap) : Type 0 where
  pub counts : AreExits (vertices segments) exits
  pub departures : AreDepartures (vertices segments) order
  pub some : All HasVias all
  pub vias : (way : ℤ) → contains int_eq ways way ≡ list_any (λ rule. is_among rule.via way) all
  pub along : AreAlong (vertices segments) ways runs
  pub numbers : AreNumbers all courses
  pub shut : AreShut all forbidden only

-- the set of a number has a way onto which the rule forbids to go on
abbrev pub is_reached : MemberSet → FirstMap → ℕ → ViaRule → Bool
is_reached ways others number rule = if rule.only then has_other others number rule.to else has_way ways number rule.to

-- the set of a number has the ways of these vertices
abbrev pub HasReached : List Vertex → List ℕ → ℕ → MemberSet → FirstMap → Type 0
HasReached vs ends number ways others = (rule : ViaRule) → is_reached ways others number rule ≡ list_any (is_onto vs (shuts rule)) ends

-- the ways of these vertices are added to the set of a number
abbrev pub AddsReached : List Vertex → List ℕ → ℕ → MemberSet → FirstMap → MemberSet → FirstMap → Type 0
AddsReached vs ends number ways others ways' others' = (n : ℕ) (rule : ViaRule)
    → is_reached ways' others' n rule ≡ (is_reached ways others n rule || ((number == n) && list_any (is_onto vs (shuts rule)) ends))

-- the ways onto which one comes along a rule's paths are those of the set of its course, of the first n rules
abbrev pub AreReached : List Segment → List Rule → List ViaRule → ℕ → MemberSet → FirstMap → Type 0
AreReached segments rules all n ways others = (k : ℕ) (rule : ViaRule) → k < n → slice_get all k ≡ Some rule → first_like all (course rule) ≡ k → HasReached (vertices segments) (ends_of (vertices segments) rules rule) k ways others
