use Rattle.std.proofs.Common.{◌≡◌, take}
use Rattle.road_base.proofs.word_lists.Words.try_clone.Given as goal

-- the words so far are copied
abbrev pub invariant-loop-word : goal.invariant-loop-word
invariant-loop-word l = l.inner.items ≡ take l.word-index l.word-items
