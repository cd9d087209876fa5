-- No value is bad.
use Rattle.std.proofs.Common.{sym, ◌∙◌}
use Rattle.toml.specs.View.{table_view}
use Rattle.vehicle_settings.proofs.Groups.{AreNumbersGood-of}
use Rattle.vehicle_settings.proofs.settings_files.fault_of.Goals as goal

pub returns-clause-good : goal.returns-clause-good
returns-clause-good c = AreNumbersGood-of (table_view c.args.table.now) (sym c.in_ok-key-2.ensures ∙ c.in_default-2.is)
