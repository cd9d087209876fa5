use Rattle.std.proofs.Common.{◌≡◌, take}
use Rattle.way_profile.proofs.way_classes.Class.try_clone.Given as goal

-- the tags so far are copied
abbrev pub invariant-loop-key : goal.invariant-loop-key
invariant-loop-key l = l.tags.items ≡ take l.key-index l.key-items
