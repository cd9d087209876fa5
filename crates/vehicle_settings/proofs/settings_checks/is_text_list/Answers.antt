-- The values of the list are those of its items.
use Rattle.std.proofs.Common.{List, ap, ◌∙◌}
use Rattle.std.specs.List.{list_all}
use Rattle.toml.specs.View.{view}
use Rattle.toml.specs.declared.value.Value.{Value}
use Rattle.vehicle_settings.specs.SettingsData.{is_text}
use Rattle.vehicle_settings.proofs.Lists.{is_list_of-array}
use Rattle.vehicle_settings.proofs.settings_checks.is_text_list.Goals as goal

pub returns-in-Some : goal.returns-in-Some
returns-in-Some c =
    c.are_texts.ensures
    ∙ ap (λ (vs : List Value). list_all (λ v. is_text (view v)) vs) c.deref.ensures.value
    ∙ is_list_of-array is_text (view c.args.value.now) _ c.in-Some.ensures
