use Rattle.std.proofs.Common.{◌≡◌, take}
use Rattle.way_profile.proofs.vehicle_profile.copy_of_numbers.Given as goal

-- the numbers so far are copied
abbrev pub invariant-loop-word : goal.invariant-loop-word
invariant-loop-word l = l.copy.items ≡ take l.word-index l.numbers
