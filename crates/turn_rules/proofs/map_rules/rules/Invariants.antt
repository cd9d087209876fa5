use Rattle.std.proofs.Common.{◌≡◌, ◌+◌, ◌≤◌, All, count_by, length, take}
use Rattle.std.specs.List.{filter_map}
use Rattle.turn_rules.specs.Rules.{HasVias, is_faulty, restriction_in, rule_of, via_rule_of}
use Rattle.turn_rules.proofs.map_rules.rules.Given as goal

abbrev pub invariant-loop-object : goal.invariant-loop-object
invariant-loop-object l = record {
  kept : l.kept.items ≡ filter_map rule_of (filter_map (restriction_in l.vehicle) (take l.object-index l.objects));
  along : l.along.items ≡ filter_map via_rule_of (filter_map (restriction_in l.vehicle) (take l.object-index l.objects));
  ignored : l.ignored ≡ count_by is_faulty (filter_map (restriction_in l.vehicle) (take l.object-index l.objects));
  vias : All HasVias l.along.items;
  few : length l.kept.items + length l.along.items + l.ignored ≤ l.object-index;
}
