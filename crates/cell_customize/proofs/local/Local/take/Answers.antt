-- One vertex more has its hops and its row.
use Rattle.std.proofs.Common.{◌≡◌, length, rules}
use Rattle.cell_customize.proofs.Locals.{IsLocal-push}
use Rattle.cell_customize.proofs.local.Local.take.Goals as goal

pub returns-clause-local : goal.returns-clause-local
returns-clause-local g c =
    let s = c.args.self.now in
    let begin : c.in_ok-arcs.arcs ≡ length s.hops.items = search rules in
    let end : c.in_ok-arcs_end.arcs_end ≡ length c.push_arcs.new.hops.items = search rules in
    rw c.in_ok-push.ensures.items (IsLocal-push (g.T.Steps.space c.args.steps.now) s.numbers c.push_arcs.new.numbers c.row_of.new.numbers s.spans.items s.hops.items c.push_arcs.new.hops.items s.heads.items c.row_of.new.heads.items
    c.args.place c.name-u.result c.in_ok-arcs.arcs c.in_ok-arcs_end.arcs_end _ _
    c.in_ok-push_arcs.ensures.grows.keeps c.in_ok-row.ensures.grows.keeps c.in_ok-push_arcs.ensures.keeps c.in_ok-row.ensures.keeps (c.in_ok-row.ensures.grows.below (c.in_ok-push_arcs.ensures.grows.below c.requires.local.below))
    c.name-u.ensures begin end c.in_ok-push_arcs.ensures.hops c.in_ok-row.ensures.row c.requires.local)
