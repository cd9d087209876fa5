-- A range has as many numbers as it counts.
use Rattle.std.proofs.Common.{sym}
use Rattle.search_graph.proofs.IndexRows.{none_from_test, range_length}
use Rattle.search_graph.proofs.rows.ArcRow.len.Goals as goal

pub returns-then-is_empty : goal.returns-then-is_empty
returns-then-is_empty c = sym (range_length _ _ _ _ c.self.view_is (none_from_test _ _ c.if-is_empty.true c.is_empty.ensures))
