use Rattle.std.proofs.Common.{◌≡◌, take, flat_map}
use Rattle.table_query.proofs.columns.all_targets.Given as goal

-- the lists so far are joined
abbrev pub invariant-loop-list : goal.invariant-loop-list
invariant-loop-list g l = l.all.items ≡ flat_map (λ list. list) (take l.list-index l.targets)
