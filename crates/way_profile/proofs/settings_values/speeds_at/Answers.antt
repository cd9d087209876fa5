-- The numbers of the table are in range, since none of its values is bad.
use Rattle.std.proofs.Common.{◌≡◌, ℕ, List, None, All, sym, subst, rules}
use Rattle.toml.specs.View.{table_view}
use Rattle.vehicle_settings.specs.Settings.{is_speed}
use Rattle.vehicle_settings.specs.SettingsData.{bad_entry}
use Rattle.way_profile.specs.SettingsValues.{scaled_numbers}
use Rattle.way_profile.specs.Vehicle.{IsSpeed}
use Rattle.way_profile.proofs.Entries.{speeds_in_range, IfOk-weaker}
use Rattle.way_profile.proofs.settings_values.speeds_at.Goals as goal

pub returns-in-Some-clause-range : goal.returns-in-Some-clause-range
returns-in-Some-clause-range c =
    let ms = table_view c.in-Some.speeds.now in
    let good : bad_entry is_speed ms ≡ None = search rules in
    IfOk-weaker c.numbers_of.result (λ list. list.items ≡ scaled_numbers 1000 ms) (λ list. All (λ e. IsSpeed e.1) list.items)
    (λ list same. subst (λ (xs : List (List ℕ × ℕ)). All (λ e. IsSpeed e.1) xs) (sym same) (speeds_in_range ms good))
    c.numbers_of.ensures
