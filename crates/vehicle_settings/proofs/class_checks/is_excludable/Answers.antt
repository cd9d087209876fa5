-- The sets are the items of the list, not too many or too many.
use Rattle.std.proofs.Common.{◌≡◌, List, true, false, nat_le, length, codes, ap, ◌∙◌, rules}
use Rattle.std.specs.List.{list_all}
use Rattle.toml.specs.View.{table_view, view}
use Rattle.toml.specs.declared.value.Value.{Value}
use Rattle.vehicle_settings.specs.ClassSettings.{is_set}
use Rattle.vehicle_settings.specs.SettingsData.{members_at}
use Rattle.vehicle_settings.proofs.Lists.{is_excludable-few, is_excludable-many}
use Rattle.vehicle_settings.proofs.class_checks.is_excludable.Goals as goal

pub returns-then-len-le-MOST_SETS : goal.returns-then-len-le-MOST_SETS
returns-then-len-le-MOST_SETS c =
    let classes = members_at (codes "classes") (table_view c.args.table.now) in
    let few : nat_le (length c.in-Some.sets.now.items) 7 ≡ true = search rules in
    c.are_sets.ensures
    ∙ ap (λ (vs : List Value). list_all (λ v. is_set classes (view v)) vs) c.deref.ensures.value
    ∙ is_excludable-few classes (view c.args.value.now) _ c.in-Some.ensures few

pub returns-else-len-le-MOST_SETS : goal.returns-else-len-le-MOST_SETS
returns-else-len-le-MOST_SETS c =
    let classes = members_at (codes "classes") (table_view c.args.table.now) in
    let many : nat_le (length c.in-Some.sets.now.items) 7 ≡ false = search rules in
    let same : nat_le c.len.result 7 ≡ nat_le (length c.in-Some.sets.now.items) 7 = search rules in
    same ∙ is_excludable-many classes (view c.args.value.now) _ c.in-Some.ensures many
