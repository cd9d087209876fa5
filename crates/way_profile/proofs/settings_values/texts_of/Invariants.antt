use Rattle.std.proofs.Common.{◌≡◌, take, map}
use Rattle.toml.specs.View.{view}
use Rattle.way_profile.specs.SettingsValues.{text_in}
use Rattle.way_profile.proofs.settings_values.texts_of.Given as goal

-- the texts so far are those of the values so far
abbrev pub invariant-loop-value : goal.invariant-loop-value
invariant-loop-value l = l.texts.items ≡ map (λ v. text_in (view v)) (take l.value-index l.values)
