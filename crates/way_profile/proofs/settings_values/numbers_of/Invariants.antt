use Rattle.std.proofs.Common.{◌≡◌, ◌++◌, map, not, None}
use Rattle.std.specs.Prelude.{find}
use Rattle.toml.specs.View.{view}
use Rattle.vehicle_settings.specs.SettingsData.{is_between}
use Rattle.way_profile.proofs.Entries.{scaled_entry}
use Rattle.way_profile.proofs.settings_values.numbers_of.Given as goal

-- the list so far, and what is left of the table, make all its numbers; what is left is good
abbrev pub invariant-loop-word : goal.invariant-loop-word
invariant-loop-word l = record {
  made : l.list.items ++ map (scaled_entry l.scale) l.word-iterator ≡ map (scaled_entry l.scale) l.members.entries;
  good : find (λ e. not (is_between 1 1000 (view e.1))) l.word-iterator ≡ None;
}
