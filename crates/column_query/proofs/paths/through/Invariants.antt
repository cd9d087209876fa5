use Rattle.step_search.specs.UnderWay.{IsUnderWay}
use Rattle.cell_frame.specs.Borders.{at_cell}
use Rattle.cell_frame.specs.Free.{free_level}
use Rattle.cell_frame.specs.Parts.{whole_at}
use Rattle.column_query.specs.Rows.{row_space}
use Rattle.column_query.proofs.Best.{IsBest}
use Rattle.column_query.proofs.paths.through.Given as goal

-- the search is under way, and the best so far is that of the entries so far
abbrev pub invariant-loop-i : goal.invariant-loop-i
invariant-loop-i g l = record {
  under_way : IsUnderWay g.C.Cost.ops (row_space g.C.Cost.ops l.over.frame.now l.over.weights.now l.over.parts.now.vertices.now) l.starts l.search;
  best : IsBest g.C.Cost.ops l.over.frame.now l.over.weights.now l.over.parts.now.vertices.now l.starts l.target (at_cell l.over.frame.now.entries (whole_at l.over.frame.now.cells (free_level l.over.frame.now.cells l.over.parts.now.vertices.now) l.target)) l.i l.best;
}
