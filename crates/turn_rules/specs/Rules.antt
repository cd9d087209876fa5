-- What the turn restrictions of a map forbid (wiki.openstreetmap.org/wiki/Relation:restriction; which of
-- them are faulty, and what becomes of those, is this project's rule).
use Rattle.std.specs.Prelude.{ℕ, ℤ, ◌-◌, ◌≤◌, nat_le, Bool, true, false, not, ◌&&◌, ◌||◌, ◌==◌, List, [], ◌∷◌, length, map, filter, take, drop, count_by, codes, bytes_eq, Option, Some, None, is_none, if◌then◌else◌}
use Rattle.std.specs.List.{filter_map, list_all, list_any, prefix_len, slice_split, suffix_len}
use Rattle.std.specs.Option.{option_and_then, option_map_or}
use Rattle.std.specs.Ordering.{int_eq}
use Rattle.std.specs.Str.{byte}
use Rattle.road_base.specs.TagValue.{value_of}
use Rattle.road_base.specs.declared.osm_objects.Kind.{Kind}
use Rattle.road_base.specs.declared.osm_objects.Kind.TheVariants as kinds
use Rattle.road_base.specs.declared.osm_objects.Member.{Member}
use Rattle.road_base.specs.declared.osm_objects.Object.{Object}
use Rattle.road_base.specs.declared.osm_objects.Object.TheVariants as object
use Rattle.road_base.specs.declared.osm_objects.Relation.{Relation}
use Rattle.turn_rules.specs.declared.senses.Sense.{Sense}
use Rattle.turn_rules.specs.declared.senses.Sense.TheVariants as senses

-- what one restriction over a `via` node says of the turns there from its `from` ways
pub record Rule : Type 0 where
  pub via : ℤ
  pub from : List ℤ
  pub to : List ℤ
  pub sense : Sense

-- what one restriction over via ways says: who comes from one way along others, in their order, may not go on onto
-- another way (`only` false), or onto no other way (`only` true)
pub record ViaRule : Type 0 where
  pub from : ℤ
  pub via : List ℤ
  pub to : ℤ
  pub only : Bool

-- one to four
abbrev pub AreFew : List ℤ → Type 0
AreFew ids = (1 ≤ length ids) × (length ids ≤ 4)

-- the rule goes along one to four ways
abbrev pub HasVias : ViaRule → Type 0
HasVias rule = AreFew rule.via

-- the way is one of these
abbrev pub is_among : List ℤ → ℤ → Bool
is_among ways way = list_any (λ w. int_eq w way) ways

-- of the turns from a `from` way, a rule of this sense with these `to` ways forbids the one from way to
-- way; `back` says that the turn goes back onto its own segment
abbrev pub forbids_onto : Sense → List ℤ → ℤ → ℤ → Bool → Bool
forbids_onto senses.No ways from to back = is_among ways to
forbids_onto senses.NoUTurn ways from to back = is_among ways to && (back || not (int_eq from to))
forbids_onto senses.Only ways from to back = not (is_among ways to)

-- the rule forbids the turn at its `via` node from way to way
abbrev pub forbids : Rule → ℤ → ℤ → Bool → Bool
forbids rule from to back = is_among rule.from from && forbids_onto rule.sense rule.to from to back

-- the value at the key is this word
abbrev pub says : List (List ℕ × List ℕ) → List ℕ → List ℕ → Bool
says tags key word = option_map_or (λ value. bytes_eq value word) (value_of tags key) false

-- the relation is a turn restriction
abbrev pub is_restriction : Relation → Bool
is_restriction relation = says relation.tags (codes "type") (codes "restriction")

-- a blank or a tab
abbrev pub is_blank : ℕ → Bool
is_blank b = b == 32 || b == 9

-- the text without the blanks at its front, and without those at its end
abbrev pub past_blanks : List ℕ → List ℕ
past_blanks text = drop (prefix_len is_blank text) text

abbrev pub up_to_blanks : List ℕ → List ℕ
up_to_blanks text = take (length text - suffix_len is_blank text) text

-- the entries of a text, which are parted by semicolons and may have blanks round them
abbrev pub entries_of : List ℕ → List (List ℕ)
entries_of text = map (λ entry. up_to_blanks (past_blanks entry)) (slice_split (λ b. b == byte ";") text)

-- the vehicle is an entry of the relation's `except`
abbrev pub is_excepted : List ℕ → Relation → Bool
is_excepted vehicle relation =
    option_map_or (λ value. list_any (λ entry. bytes_eq entry vehicle) (entries_of value)) (value_of relation.tags (codes "except")) false

-- the values of `restriction` by which the turns onto the `to` ways are forbidden
abbrev pub no_words : List (List ℕ)
no_words =
    codes "no_left_turn"
    ∷ codes "no_right_turn"
    ∷ codes "no_straight_on"
    ∷ codes "no_entry"
    ∷ codes "no_exit"
    ∷ []

-- and those by which all others are
abbrev pub only_words : List (List ℕ)
only_words = codes "only_left_turn" ∷ codes "only_right_turn" ∷ codes "only_straight_on" ∷ []

abbrev pub is_word_of : List (List ℕ) → List ℕ → Bool
is_word_of words value = list_any (λ word. bytes_eq value word) words

-- and those by which going on onto the `to` way is, where there are via ways
abbrev pub no_turn_words : List (List ℕ)
no_turn_words =
    codes "no_left_turn"
    ∷ codes "no_right_turn"
    ∷ codes "no_straight_on"
    ∷ codes "no_u_turn"
    ∷ []

-- the sense of a value of `restriction`, None where it is none of the nine
abbrev pub sense_of : List ℕ → Option Sense
sense_of value =
    if is_word_of no_words value then Some senses.No
    else if bytes_eq value (codes "no_u_turn") then Some senses.NoUTurn
    else if is_word_of only_words value then Some senses.Only
    else None

-- of the values by which a restriction over via ways may stand, whether all other ways than the `to` way are
-- forbidden; None for any other value
abbrev pub only_of : List ℕ → Option Bool
only_of value = if is_word_of no_turn_words value then Some false else if is_word_of only_words value then Some true else None

-- the two kinds are one
abbrev pub is_kind : Kind → Kind → Bool
is_kind kinds.Node kinds.Node = true
is_kind kinds.Way kinds.Way = true
is_kind kinds.Relation kinds.Relation = true
is_kind _ _ = false

-- the members in a role, of whatever kind
abbrev pub members_as : List ℕ → List Member → List Member
members_as role members = filter (λ m. bytes_eq m.role role) members

-- the id of the one object of a kind that these members are, None where they are anything else
abbrev pub one_in : Kind → List Member → Option ℤ
one_in kind (m ∷ []) = if is_kind kind m.kind then Some m.id else None
one_in _ _ = None

-- there is one, or more where there may be several
abbrev pub is_number : Bool → ℕ → Bool
is_number several n = n == 1 || (several && not (n == 0))

-- the ids of the one way that these members are, or of the ways where there may be several; None where
-- they are anything else
abbrev pub ways_in : Bool → List Member → Option (List ℤ)
ways_in several members =
    if is_number several (length members) && list_all (λ m. is_kind kinds.Way m.kind) members then Some (map (λ m. m.id) members) else None

-- the ids, if there are at most four
abbrev pub up_to_four : List ℤ → Option (List ℤ)
up_to_four ids = if nat_le (length ids) 4 then Some ids else None

-- the ids of the one to four ways that these members are, None where they are anything else
abbrev pub vias_in : List Member → Option (List ℤ)
vias_in members = option_and_then up_to_four (ways_in true members)

-- the rule of these parts, if none is missing
abbrev pub rule_with : Option ℤ → Option Sense → Option (List ℤ) → Option (List ℤ) → Option Rule
rule_with (Some via) (Some sense) (Some from) (Some to) = Some (record { via = via; from = from; to = to; sense = sense })
rule_with _ _ _ _ = None

-- the rule of these members under a value of `restriction`: from one way over one node to one way, but
-- `no_entry` may have several ways in the role `from`, and `no_exit` in the role `to`
abbrev pub rule_under : List Member → List ℕ → Option Rule
rule_under members value =
    rule_with
    (one_in kinds.Node (members_as (codes "via") members))
    (sense_of value)
    (ways_in (bytes_eq value (codes "no_entry")) (members_as (codes "from") members))
    (ways_in (bytes_eq value (codes "no_exit")) (members_as (codes "to") members))

-- the rule at a node that a restriction is, None where it is none
abbrev pub rule_of : Relation → Option Rule
rule_of relation = option_and_then (rule_under relation.members) (value_of relation.tags (codes "restriction"))

-- the rule over via ways of these parts, if none is missing
abbrev pub via_rule_with : Option Bool → Option ℤ → Option (List ℤ) → Option ℤ → Option ViaRule
via_rule_with (Some only) (Some from) (Some via) (Some to) = Some (record { from = from; via = via; to = to; only = only })
via_rule_with _ _ _ _ = None

-- the rule over via ways of these members under a value of `restriction`: from one way along one to four ways
-- to one way; neither `no_entry` nor `no_exit` may stand so
abbrev pub via_rule_under : List Member → List ℕ → Option ViaRule
via_rule_under members value =
    via_rule_with
    (only_of value)
    (one_in kinds.Way (members_as (codes "from") members))
    (vias_in (members_as (codes "via") members))
    (one_in kinds.Way (members_as (codes "to") members))

-- the rule over via ways that a restriction is, None where it is a rule at a node or faulty
abbrev pub via_rule_of : Relation → Option ViaRule
via_rule_of relation = option_and_then (via_rule_under relation.members) (value_of relation.tags (codes "restriction"))

-- the restriction is neither
abbrev pub is_faulty : Relation → Bool
is_faulty relation = is_none (rule_of relation) && is_none (via_rule_of relation)

-- the rules at nodes and those over via ways that are kept, and how many restrictions are ignored, since they are faulty
pub record RulesView : Type 0 where
  pub kept : List Rule
  pub along : List ViaRule
  pub ignored : ℕ

-- the restriction that an object is, if the vehicle has to obey it
abbrev pub restriction_in : List ℕ → Object → Option Relation
restriction_in vehicle (object.Node n) = None
restriction_in vehicle (object.Way w) = None
restriction_in vehicle (object.Relation r) = if is_restriction r && not (is_excepted vehicle r) then Some r else None

-- the rules of a map for a vehicle, in the order of the objects
abbrev pub rules_of : List Object → List ℕ → RulesView
rules_of objects vehicle =
    let restrictions = filter_map (restriction_in vehicle) objects in
    record { kept = filter_map rule_of restrictions; along = filter_map via_rule_of restrictions; ignored = count_by is_faulty restrictions }
