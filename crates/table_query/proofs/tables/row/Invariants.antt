use Rattle.std.proofs.Common.{◌≡◌, take, length}
use Rattle.table_query.specs.Tables.{IsRow}
use Rattle.table_query.proofs.JoinedLists.{joined}
use Rattle.table_query.proofs.tables.row.Given as goal

-- each list of targets so far has its cell, and the costs of the next begin behind theirs
abbrev pub invariant-loop-list : goal.invariant-loop-list
invariant-loop-list g l = record {
  from : l.from ≡ length (joined (take l.list-index l.columns.targets.now));
  cells : IsRow g.C.Cost.ops l.columns.overlay.now.frame.now.graph l.columns.overlay.now.weights.now (take l.list-index l.columns.targets.now) l.starts l.values.items;
}
