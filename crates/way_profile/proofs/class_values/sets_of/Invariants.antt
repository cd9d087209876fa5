use Rattle.std.proofs.Common.{◌≡◌, take, map}
use Rattle.toml.specs.View.{view}
use Rattle.way_profile.specs.SettingsValues.{texts_in}
use Rattle.way_profile.proofs.class_values.sets_of.Given as goal

-- the sets so far are those of the values so far
abbrev pub invariant-loop-value : goal.invariant-loop-value
invariant-loop-value l = l.sets.items ≡ map (λ v. texts_in (view v)) (take l.value-index l.values)
