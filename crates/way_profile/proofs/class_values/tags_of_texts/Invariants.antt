use Rattle.std.proofs.Common.{◌≡◌, take, map}
use Rattle.way_profile.specs.SettingsValues.{tag_of}
use Rattle.way_profile.proofs.class_values.tags_of_texts.Given as goal

-- the tags so far are those of the texts so far
abbrev pub invariant-loop-text : goal.invariant-loop-text
invariant-loop-text l = l.tags.items ≡ map tag_of (take l.text-index l.texts)
