-- Where no member of a table is bad, none at a key is.
use Rattle.std.proofs.Common.{codes}
use Rattle.toml.specs.View.{table_view}
use Rattle.vehicle_settings.specs.Settings.{is_penalty}
use Rattle.way_profile.proofs.Entries.{no_bad_member}
use Rattle.way_profile.proofs.settings_values.turn_penalties_of.Goals as goal

pub penalty_at-requires : goal.penalty_at-requires
penalty_at-requires c = no_bad_member is_penalty (codes "straight") (table_view c.args.penalties.now) c.requires

pub penalty_at-requires-2 : goal.penalty_at-requires-2
penalty_at-requires-2 c = no_bad_member is_penalty (codes "slight_right") (table_view c.args.penalties.now) c.requires

pub penalty_at-requires-3 : goal.penalty_at-requires-3
penalty_at-requires-3 c = no_bad_member is_penalty (codes "right") (table_view c.args.penalties.now) c.requires

pub penalty_at-requires-4 : goal.penalty_at-requires-4
penalty_at-requires-4 c = no_bad_member is_penalty (codes "sharp_right") (table_view c.args.penalties.now) c.requires

pub penalty_at-requires-5 : goal.penalty_at-requires-5
penalty_at-requires-5 c = no_bad_member is_penalty (codes "uturn") (table_view c.args.penalties.now) c.requires

pub penalty_at-requires-6 : goal.penalty_at-requires-6
penalty_at-requires-6 c = no_bad_member is_penalty (codes "sharp_left") (table_view c.args.penalties.now) c.requires

pub penalty_at-requires-7 : goal.penalty_at-requires-7
penalty_at-requires-7 c = no_bad_member is_penalty (codes "left") (table_view c.args.penalties.now) c.requires

pub penalty_at-requires-8 : goal.penalty_at-requires-8
penalty_at-requires-8 c = no_bad_member is_penalty (codes "slight_left") (table_view c.args.penalties.now) c.requires
