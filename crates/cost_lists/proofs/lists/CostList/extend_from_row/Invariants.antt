use Rattle.std.proofs.Common.{◌≡◌, ◌++◌, take}
use Rattle.cost_lists.specs.Words.{values_of}
use Rattle.cost_lists.proofs.lists.CostList.extend_from_row.Given as goal

-- the words so far have been put behind the list
abbrev pub invariant-loop-word : goal.invariant-loop-word
invariant-loop-word g l = l.self ≡ l.fn.self ++ values_of g.C.Narrow.widened l.row-inside.others.now (take l.word-index l.row-inside.words.now)
