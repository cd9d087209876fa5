use Rattle.std.proofs.Common.{◌≡◌, drop}
use Rattle.way_profile.specs.WayTags.{number_of}
use Rattle.way_profile.proofs.way_uses.number_of.Given as goal

-- no entry so far has this word
abbrev pub invariant-loop-entry : goal.invariant-loop-entry
invariant-loop-entry l = number_of l.numbers l.word ≡ number_of (drop l.entry-index l.numbers) l.word
