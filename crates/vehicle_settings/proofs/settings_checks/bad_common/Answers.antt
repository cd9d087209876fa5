-- The groups are looked at one after the other, and the first key that is found is told.
use Rattle.std.proofs.Common.{Some, None, codes, refl, ap, sym, ◌∙◌}
use Rattle.toml.specs.View.{table_view}
use Rattle.vehicle_settings.specs.Settings.{is_penalty}
use Rattle.vehicle_settings.specs.SettingsData.{bad_inside, first_of}
use Rattle.vehicle_settings.proofs.Groups.{bad_others, bad_common-by_group}
use Rattle.vehicle_settings.proofs.settings_checks.bad_common.Goals as goal

pub returns-in-Some-bad_list : goal.returns-in-Some-bad_list
returns-in-Some-bad_list c =
    let m = table_view c.args.table.now in
    let speed = sym c.in_default-2.is ∙ c.in_ok-key.ensures in
    ap Some c.in_ok-copy_of-2.ensures
    ∙ bad_common-by_group m None None (Some c.in-Some-bad_list.key.now) (bad_inside is_penalty (codes "turn_penalty") m) (first_of (bad_others m)) c.in_default.ensures speed c.in-Some-bad_list.ensures refl refl

pub returns-in-Some-3 : goal.returns-in-Some-3
returns-in-Some-3 c =
    let m = table_view c.args.table.now in
    let speed = sym c.in_default-2.is ∙ c.in_ok-key.ensures in
    let turn = sym c.in-Some-3.is ∙ c.in_ok-key-2.ensures in
    bad_common-by_group m None None None (Some c.in-Some-3.key) (first_of (bad_others m)) c.in_default.ensures speed c.in_default-bad_list.ensures turn refl

pub returns-in_ok-copy_of-in-Some-bad_after_tables : goal.returns-in_ok-copy_of-in-Some-bad_after_tables
returns-in_ok-copy_of-in-Some-bad_after_tables c =
    let m = table_view c.args.table.now in
    let speed = sym c.in_default-2.is ∙ c.in_ok-key.ensures in
    let turn = sym c.in_default-3.is ∙ c.in_ok-key-2.ensures in
    ap Some c.in_ok-copy_of-in-Some-bad_after_tables.ensures
    ∙ bad_common-by_group m None None None None (Some c.in-Some-bad_after_tables.key.now) c.in_default.ensures speed c.in_default-bad_list.ensures turn c.in-Some-bad_after_tables.ensures

pub returns-in-None : goal.returns-in-None
returns-in-None c =
    let m = table_view c.args.table.now in
    let speed = sym c.in_default-2.is ∙ c.in_ok-key.ensures in
    let turn = sym c.in_default-3.is ∙ c.in_ok-key-2.ensures in
    bad_common-by_group m None None None None None c.in_default.ensures speed c.in_default-bad_list.ensures turn c.in-None.ensures
