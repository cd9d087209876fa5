use Rattle.std.proofs.Common.{◌≡◌, ◌+◌, ◌-◌, ◌≤◌, length, drop}
use Rattle.std.specs.List.{prefix_len}
use Rattle.turn_rules.specs.Rules.{is_blank}
use Rattle.turn_rules.proofs.exceptions.blanks_before.Given as goal

abbrev pub invariant-loop-count : goal.invariant-loop-count
invariant-loop-count l = record {
  in_range : l.count ≤ length l.text;
  blanks : l.count + prefix_len is_blank (drop l.count l.text) ≡ prefix_len is_blank l.text;
}

abbrev pub decreases-loop-count : goal.decreases-loop-count
decreases-loop-count l = length l.text - l.count
