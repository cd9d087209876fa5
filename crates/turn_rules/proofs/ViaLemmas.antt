-- A restriction is over a node or over ways, not over both.
use Rattle.std.proofs.Common.{◌≡◌, ℕ, ℤ, Bool, true, false, List, [], ◌∷◌, Option, Some, None, refl, sym, codes, bytes_eq, rules}
use Rattle.std.specs.Option.{option_and_then}
use Rattle.road_base.specs.declared.osm_objects.Kind.{Kind}
use Rattle.road_base.specs.declared.osm_objects.Kind.TheVariants as kinds
use Rattle.road_base.specs.declared.osm_objects.Member.{Member}
use Rattle.road_base.specs.declared.osm_objects.Relation.{Relation}
use Rattle.turn_rules.specs.declared.senses.Sense.{Sense}
use Rattle.turn_rules.specs.Rules.{Rule, is_kind, members_as, one_in, only_of, rule_of, rule_under, rule_with, sense_of, via_rule_of, via_rule_under, via_rule_with, vias_in, ways_in}

-- a node is no way
is_kind-other : (kind : Kind) → is_kind kinds.Node kind ≡ true → is_kind kinds.Way kind ≡ false
is_kind-other kinds.Node is = refl
is_kind-other kinds.Way is = search rules
is_kind-other kinds.Relation is = refl

-- members that are one node are no ways
vias_in-node : (members : List Member) (id : ℤ) → one_in kinds.Node members ≡ Some id → vias_in members ≡ None
vias_in-node [] id is = refl
vias_in-node (m ∷ []) id is = grind (rules, is_kind-other)
vias_in-node (m ∷ k ∷ members) id is = search rules

-- with no ways there is no rule over ways
via_rule_with-none : (only : Option Bool) (from to : Option ℤ) → via_rule_with only from None to ≡ None
via_rule_with-none None from to = refl
via_rule_with-none (Some only) None to = refl
via_rule_with-none (Some only) (Some from) to = refl

with_one : (via : Option ℤ) (vias : Option (List ℤ)) (sense : Option Sense) (froms tos : Option (List ℤ)) (only : Option Bool) (from to : Option ℤ) (rule : Rule) → ((id : ℤ) → via ≡ Some id → vias ≡ None) → rule_with via sense froms tos ≡ Some rule → via_rule_with only from vias to ≡ None
with_one None vias sense froms tos only from to rule none is = search rules
with_one (Some id) vias sense froms tos only from to rule none is = rw (none id refl) (via_rule_with-none only from to)

under_one : (members : List Member) (value : List ℕ) (rule : Rule) → rule_under members value ≡ Some rule → via_rule_under members value ≡ None
under_one members value rule is =
    with_one
    (one_in kinds.Node (members_as (codes "via") members))
    (vias_in (members_as (codes "via") members))
    (sense_of value)
    (ways_in (bytes_eq value (codes "no_entry")) (members_as (codes "from") members))
    (ways_in (bytes_eq value (codes "no_exit")) (members_as (codes "to") members))
    (only_of value)
    (one_in kinds.Way (members_as (codes "from") members))
    (one_in kinds.Way (members_as (codes "to") members))
    rule
    (vias_in-node (members_as (codes "via") members))
    is

at_one : (members : List Member) (value : Option (List ℕ)) (rule : Rule) → option_and_then (rule_under members) value ≡ Some rule → option_and_then (via_rule_under members) value ≡ None
at_one members None rule is = refl
at_one members (Some value) rule is = under_one members value rule is

-- a rule at a node is none over ways
pub via_rule_of-none : (relation : Relation) (rule : Rule) → Some rule ≡ rule_of relation → None ≡ via_rule_of relation
via_rule_of-none relation rule is = sym (at_one relation.members _ rule (sym is))
