-- No key of the file is unknown, and one of `turn_penalty` is.
use Rattle.std.proofs.Common.{Some, None, codes, ap, ◌∙◌}
use Rattle.toml.specs.Data.{get_member}
use Rattle.toml.specs.View.{table_view}
use Rattle.vehicle_settings.specs.Settings.{is_known, key_beside, unknown_turn}
use Rattle.vehicle_settings.proofs.Firsts.{first_of-one, first_of-then}
use Rattle.vehicle_settings.proofs.Lists.{unknown_turn-table}
use Rattle.vehicle_settings.proofs.settings_keys.unknown_key.Goals as goal

pub returns-in_ok-format-in-Some-unknown_turn : goal.returns-in_ok-format-in-Some-unknown_turn
returns-in_ok-format-in-Some-unknown_turn c =
    let m = table_view c.args.table.now in
    let penalties = get_member (codes "turn_penalty") m in
    ap Some (c.of.ensures ∙ c.in_ok-format-in-Some-unknown_turn.ensures.ok)
    ∙ first_of-then (key_beside (is_known m) m) _ None _ c.in_default.ensures
    (unknown_turn-table penalties _ _ c.in-Some-table_at.ensures c.in-Some-unknown_turn.ensures ∙ first_of-one (unknown_turn penalties))
