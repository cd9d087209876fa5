use Rattle.std.proofs.Common.{◌≡◌, ◌≤◌, take, not}
use Rattle.std.specs.Prelude.{count_by}
use Rattle.road_turns.proofs.restrictions.count_unmet.Given as goal

-- those so far are counted
abbrev pub invariant-loop-flag : goal.invariant-loop-flag
invariant-loop-flag l = record {
  counted : l.count ≡ count_by (λ flag. not flag) (take l.flag-index l.flags);
  few : l.count ≤ l.flag-index;
}
