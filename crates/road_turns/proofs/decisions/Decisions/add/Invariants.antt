use Rattle.std.proofs.Common.{◌≡◌, ℤ, Bool, ◌&&◌, ◌||◌, drop}
use Rattle.std.specs.Ordering.{int_eq}
use Rattle.turn_rules.specs.Rules.{forbids_onto, is_among}
use Rattle.road_turns.specs.Decisions.{decides}
use Rattle.road_turns.proofs.decisions.Decisions.add.Given as goal

-- the ways from this one on are still to be added
abbrev pub invariant-loop-way : goal.invariant-loop-way
invariant-loop-way l = (n f t : ℤ) (back : Bool)
    → (decides l.self.forbidden l.self.no_u_turn l.self.only n f t back || (int_eq l.node n && (is_among (drop l.way-index l.from) f && forbids_onto l.sense l.to f t back)))
    ≡ (decides l.fn.self.forbidden l.fn.self.no_u_turn l.fn.self.only n f t back || (int_eq l.node n && (is_among l.from f && forbids_onto l.sense l.to f t back)))
