use Rattle.std.proofs.Common.{◌≡◌, not, find}
use Rattle.toml.specs.View.{view}
use Rattle.vehicle_settings.specs.SettingsData.{is_between}
use Rattle.vehicle_settings.proofs.Entries.{Entry}
use Rattle.vehicle_settings.proofs.settings_checks.bad_entry.Given as goal

-- the first bad value is among those that are left
abbrev pub invariant-loop-key : goal.invariant-loop-key
invariant-loop-key l =
    find (λ (e : Entry). not (is_between l.least l.greatest (view e.1))) l.key-iterator
    ≡ find (λ (e : Entry). not (is_between l.least l.greatest (view e.1))) l.members.entries
