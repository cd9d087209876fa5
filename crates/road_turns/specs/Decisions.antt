-- For private functions: what the turn restrictions at each node decide, by node, way and way.
use Rattle.std.specs.Prelude.{◌≡◌, ℤ, Bool, true, false, not, ◌&&◌, ◌||◌, List, length, Vec}
use Rattle.std.specs.Global.{Global}
use Rattle.std.specs.HashMap.{HashMap, get}
use Rattle.std.specs.HashSet.{HashSet, contains}
use Rattle.std.specs.List.{items_where_true}
use Rattle.std.specs.Option.{option_map_or}
use Rattle.std.specs.Ordering.{int_eq}
use Rattle.std.specs.declared.hash.FoldHasher.{FoldHasher}
use Rattle.std.specs.declared.hash.BuildHasherDefault.{BuildHasherDefault}
use Rattle.turn_rules.specs.Rules.{Rule, is_among}
use Rattle.road_turns.specs.Restrictions.{is_forbidden_at}
use Rattle.road_turns.specs.RestrictionParts.{NodeSet, has_via, pair_eq}
use Rattle.road_turns.specs.declared.decisions.Onto.{Onto}
use Rattle.road_turns.specs.declared.decisions.Onto.TheVariants.{Any, One, Nothing}

abbrev pub passage_eq : ℤ × ℤ × ℤ → ℤ × ℤ × ℤ → Bool
passage_eq a b = (int_eq a.0 b.0 && int_eq a.1 b.1) && int_eq a.2 b.2

abbrev pub PassageSet : Type 0
PassageSet = HashSet (ℤ × ℤ × ℤ) (BuildHasherDefault FoldHasher)

abbrev pub OnlyMap : Type 0
OnlyMap = HashMap (ℤ × ℤ) (Vec ℤ Global) (BuildHasherDefault FoldHasher)

-- the ways that are allowed from a way at a node are none of this one
abbrev pub rules_out : OnlyMap → ℤ × ℤ → ℤ → Bool
rules_out only key way = option_map_or (λ ways. not (is_among ways.items way)) (get pair_eq only key) false

-- by these sets, to go from way to way at the node is forbidden
abbrev pub decides : PassageSet → PassageSet → OnlyMap → ℤ → ℤ → ℤ → Bool → Bool
decides forbidden no_u_turn only node from to back =
    (contains passage_eq forbidden (node, from, to) || (contains passage_eq no_u_turn (node, from, to) && (back || not (int_eq from to)))) || rules_out only (node, from) to

-- they decide as the rules do
abbrev pub AreDecisions : List Rule → PassageSet → PassageSet → OnlyMap → Type 0
AreDecisions rules forbidden no_u_turn only = (node from to : ℤ) (back : Bool) → decides forbidden no_u_turn only node from to back ≡ is_forbidden_at rules node from to back

-- the test rules out each way but these
abbrev pub MatchOnto : (ℤ → Bool) → Onto → Type 0
MatchOnto out Any = Unit {0}
MatchOnto out (One way) = (to : ℤ) → int_eq way to ≡ false → out to ≡ true
MatchOnto out Nothing = (to : ℤ) → out to ≡ true

-- the nodes and what is decided at them are those of the rules that apply
pub record AreRestrictionParts (rules : List Rule) (flags : List Bool) (nodes : NodeSet) (forbidden no_u_turn : PassageSet) (only : OnlyMap) : Type 0 where
  pub as_many : length flags ≡ length rules
  pub at : (node : ℤ) → contains int_eq nodes node ≡ has_via (items_where_true flags rules) node
  pub decisions : AreDecisions (items_where_true flags rules) forbidden no_u_turn only
