-- The first key of the map that is no setting is that of the members.
use Rattle.std.proofs.Common.{Some, option_map, string_bytes, ap, ◌∙◌}
use Rattle.toml.specs.View.{table_view}
use Rattle.vehicle_settings.specs.Settings.{is_known}
use Rattle.vehicle_settings.proofs.Entries.{key_beside-entries}
use Rattle.vehicle_settings.proofs.settings_keys.unknown_setting.Goals as goal

pub returns-in-Some : goal.returns-in-Some
returns-in-Some c = ap Some c.as_str.ensures.value ∙ ap (option_map (λ k. string_bytes k)) c.in-Some.ensures ∙ key_beside-entries (is_known (table_view c.args.table.now)) c.args.table.now.entries

pub returns-in-None : goal.returns-in-None
returns-in-None c = ap (option_map (λ k. string_bytes k)) c.in-None.ensures ∙ key_beside-entries (is_known (table_view c.args.table.now)) c.args.table.now.entries
