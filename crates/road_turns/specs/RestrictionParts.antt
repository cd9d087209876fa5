-- For private functions: the nodes of rules, and which ways meet these.
use Rattle.std.specs.Prelude.{◌≡◌, ℤ, Bool, true, ◌&&◌, List}
use Rattle.std.specs.HashSet.{HashSet, contains}
use Rattle.std.specs.List.{list_any}
use Rattle.std.specs.Ordering.{int_eq}
use Rattle.std.specs.declared.hash.FoldHasher.{FoldHasher}
use Rattle.std.specs.declared.hash.BuildHasherDefault.{BuildHasherDefault}
use Rattle.turn_rules.specs.Rules.{Rule}
use Rattle.road_turns.specs.Restrictions.{meets}
use Rattle.road_segments.specs.Segment.{Segment}

-- some rule forbids turns at the node
abbrev pub has_via : List Rule → ℤ → Bool
has_via rules node = list_any (λ rule. int_eq rule.via node) rules

abbrev pub pair_eq : ℤ × ℤ → ℤ × ℤ → Bool
pair_eq a b = int_eq a.0 b.0 && int_eq a.1 b.1

abbrev pub NodeSet : Type 0
NodeSet = HashSet ℤ (BuildHasherDefault FoldHasher)

abbrev pub PairSet : Type 0
PairSet = HashSet (ℤ × ℤ) (BuildHasherDefault FoldHasher)

-- each of the nodes is in the set with each way that meets it, and with no other way
abbrev pub AreMet : NodeSet → List Segment → PairSet → Type 0
AreMet nodes segments met = (node way : ℤ) → contains int_eq nodes node ≡ true → contains pair_eq met (node, way) ≡ meets segments node way
