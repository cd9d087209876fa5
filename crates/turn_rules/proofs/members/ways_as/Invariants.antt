use Rattle.std.proofs.Common.{◌≡◌, map, take, true}
use Rattle.std.specs.List.{list_all}
use Rattle.road_base.specs.declared.osm_objects.Kind.TheVariants as kinds
use Rattle.turn_rules.specs.Rules.{is_kind, members_as}
use Rattle.turn_rules.proofs.members.ways_as.Given as goal

abbrev pub invariant-loop-member : goal.invariant-loop-member
invariant-loop-member l = record {
  ids : l.ways.items ≡ map (λ m. m.id) (members_as l.role (take l.member-index l.members));
  are_ways : list_all (λ m. is_kind kinds.Way m.kind) (members_as l.role (take l.member-index l.members)) ≡ true;
}
