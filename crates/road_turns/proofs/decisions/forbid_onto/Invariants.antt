use Rattle.std.proofs.Common.{◌≡◌, ℤ, ◌&&◌, ◌||◌, drop}
use Rattle.std.specs.HashSet.{contains}
use Rattle.std.specs.Ordering.{int_eq}
use Rattle.turn_rules.specs.Rules.{is_among}
use Rattle.road_turns.specs.Decisions.{passage_eq}
use Rattle.road_turns.proofs.decisions.forbid_onto.Given as goal

-- the ways from this one on are still to be added
abbrev pub invariant-loop-way : goal.invariant-loop-way
invariant-loop-way l = (q : ℤ × ℤ × ℤ)
    → (contains passage_eq l.passages q || ((int_eq l.node q.0 && int_eq l.from q.1) && is_among (drop l.way-index l.to) q.2))
    ≡ (contains passage_eq l.fn.passages q || ((int_eq l.node q.0 && int_eq l.from q.1) && is_among l.to q.2))
