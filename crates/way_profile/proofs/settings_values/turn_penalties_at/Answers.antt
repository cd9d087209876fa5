-- The table at the key is the one whose penalties are told.
use Rattle.std.proofs.Common.{ap, ◌∙◌}
use Rattle.way_profile.specs.SettingsValues.{turn_penalties_of}
use Rattle.way_profile.proofs.Lists.{members_in-table}
use Rattle.way_profile.proofs.settings_values.turn_penalties_at.Goals as goal

pub returns-in-Some-clause-value : goal.returns-in-Some-clause-value
returns-in-Some-clause-value c = c.turn_penalties_of.ensures.value ∙ ap turn_penalties_of (members_in-table _ _ c.in-Some.ensures)
