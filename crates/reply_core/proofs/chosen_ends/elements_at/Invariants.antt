use Rattle.std.proofs.Common.{◌≡◌, take}
use Rattle.std.specs.List.{flat_map, slice_get}
use Rattle.std.specs.Option.{option_to_list}
use Rattle.reply_core.proofs.chosen_ends.elements_at.Given as goal

-- the elements of the numbers so far
abbrev pub invariant-loop-index : goal.invariant-loop-index
invariant-loop-index g l = l.chosen.items ≡ flat_map (λ i. option_to_list (slice_get l.all i)) (take l.index-index l.indexes)
