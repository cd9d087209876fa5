-- A vertex that is alone has the name 0, 0, and any other its level and its place among the exits.
use Rattle.std.proofs.Common.{sym, ◌∙◌}
use Rattle.column_search.proofs.Naming.{row_alone}
use Rattle.column_search.proofs.backward.BackwardSteps.row.Goals as goal

pub returns-then-level-eq0-clause-name : goal.returns-then-level-eq0-clause-name
returns-then-level-eq0-clause-name g c =
    let s = c.args.self.now.toward.now in
    sym (row_alone c.args.self.now.overlay.now.frame.now s.cell s.target c.args.v (sym c.level-level.ensures ∙ c.if-level-eq0.true))
