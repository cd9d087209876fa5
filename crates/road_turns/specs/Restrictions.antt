-- Which of a map's turn restrictions apply in a network, and what they forbid in it (OpenStreetMap's
-- relations of type restriction; that those whose members do not meet are left out is this project's rule).
use Rattle.std.specs.Prelude.{ℕ, ℤ, ◌+◌, ◌==◌, Bool, not, ◌&&◌, ◌||◌, List, ◌++◌, filter, count_by}
use Rattle.std.specs.List.{list_all, list_any}
use Rattle.std.specs.Ordering.{int_eq}
use Rattle.turn_rules.specs.Rules.{Rule, RulesView, forbids}
use Rattle.road_segments.specs.Segment.{Segment}
use Rattle.road_segments.specs.Vertex.{Vertex, opposite}

-- a segment of the way begins or ends at the node
abbrev pub meets : List Segment → ℤ → ℤ → Bool
meets segments node way = list_any (λ s. int_eq s.street.way way && (int_eq s.tail node || int_eq s.head node)) segments

-- each way of the rule meets its via node
abbrev pub applies : List Segment → Rule → Bool
applies segments rule = list_all (meets segments rule.via) (rule.from ++ rule.to)

-- those of the rules of a map that apply, and how many others there are besides those that were faulty
abbrev pub applied_rules : List Segment → RulesView → RulesView
applied_rules segments rules = record {
  kept = filter (applies segments) rules.kept;
  along = rules.along;
  ignored = rules.ignored + count_by (λ rule. not (applies segments rule)) rules.kept;
}

-- a rule at the node forbids to go from way to way there
abbrev pub is_forbidden_at : List Rule → ℤ → ℤ → ℤ → Bool → Bool
is_forbidden_at rules node from to back = list_any (λ rule. int_eq rule.via node && forbids rule from to back) rules

-- a rule at the head of d forbids to go on to e
abbrev pub is_forbidden : List Rule → ℕ × Vertex → ℕ × Vertex → Bool
is_forbidden rules d e = is_forbidden_at rules d.1.head d.1.way e.1.way (e.0 == opposite d.0)
