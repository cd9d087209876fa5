use Rattle.std.proofs.Common.{drop}
use Rattle.std.specs.List.{items_where_true}
use Rattle.road_turns.specs.Decisions.{AreDecisions}
use Rattle.road_turns.proofs.decisions.Decisions.of.Given as goal

-- what the rules from number i on decide
abbrev pub invariant-loop-i : goal.invariant-loop-i
invariant-loop-i l = AreDecisions (items_where_true (drop l.i l.applies) (drop l.i l.rules.kept)) l.decisions.forbidden l.decisions.no_u_turn l.decisions.only
