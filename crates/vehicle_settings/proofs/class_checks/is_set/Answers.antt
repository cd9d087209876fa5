-- The names of the set are the items of its list.
use Rattle.std.proofs.Common.{◌≡◌, List, true, not, ◌==◌, length, codes, ap, ◌∙◌, rules}
use Rattle.std.specs.List.{list_all}
use Rattle.toml.specs.View.{table_view, view}
use Rattle.toml.specs.declared.value.Value.{Value}
use Rattle.vehicle_settings.specs.ClassSettings.{is_class_of}
use Rattle.vehicle_settings.specs.SettingsData.{members_at}
use Rattle.vehicle_settings.proofs.Lists.{is_set-array}
use Rattle.vehicle_settings.proofs.class_checks.is_set.Goals as goal

pub returns-then-not-is_empty : goal.returns-then-not-is_empty
returns-then-not-is_empty c =
    let classes = members_at (codes "classes") (table_view c.args.table.now) in
    let some : not (length c.in-Some.names.now.items == 0) ≡ true = search rules in
    c.are_classes.ensures
    ∙ ap (λ (vs : List Value). list_all (λ v. is_class_of classes (view v)) vs) c.deref.ensures.value
    ∙ is_set-array classes (view c.args.value.now) _ c.in-Some.ensures some
