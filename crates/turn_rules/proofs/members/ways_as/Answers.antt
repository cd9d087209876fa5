use Rattle.std.proofs.Common.{arith, sym, bytes_eq, rules}
use Rattle.std.proofs.lemmas.Grind.{common_steps}
use Rattle.std.proofs.lemmas.List.Elements.{filter_more}
use Rattle.std.proofs.lemmas.List.Folds.{list_all-append}
use Rattle.road_base.specs.declared.osm_objects.Kind.TheVariants as kinds
use Rattle.turn_rules.specs.Rules.{is_kind, members_as}
use Rattle.turn_rules.proofs.MemberLemmas.{list_all-filter-at, ways_in-other}
use Rattle.turn_rules.proofs.members.ways_as.Goals as goal

pub returns-then-not-is_kind : goal.returns-then-not-is_kind
returns-then-not-is_kind c =
    sym (ways_in-other c.args.several (members_as c.args.role.now c.args.members.now)
    (list_all-filter-at (λ m. is_kind kinds.Way m.kind) (λ m. bytes_eq m.role c.args.role.now) _ c.loop-member.member-index c.member-item.result (search rules) c.member-item.is (search rules) (search rules)))

pub loop-member-preserved : goal.loop-member-preserved
loop-member-preserved c = grind (arith, common_steps, filter_more, list_all-append)
