-- A cell without entries has no rows, and the clique of any other is found whole.
use Rattle.std.proofs.Common.{◌≡◌, ◌+◌, ◌-◌, ◌<◌, length, ap, arith}
use Rattle.std.proofs.lemmas.Bool.Decides.{nat_tests}
use Rattle.std.proofs.lemmas.Result.{on_ok_weaker}
use Rattle.list_lemmas.proofs.Gets.{get_some}
use Rattle.cell_frame.specs.Borders.{at_cell}
use Rattle.cell_recustomize.proofs.Kept.{clique_found, exact_clique}
use Rattle.cell_recustomize.proofs.keeping.keep_clique.Goals as goal

pub clique-clique-requires-clause-has : goal.clique-clique-requires-clause-has
clique-clique-requires-clause-has g c =
    let entries = at_cell c.args.frame.now.entries c.args.cell in
    let some : 0 < length c.entries.result.now = grind (arith, nat_tests, c.is_empty.ensures, c.if-is_empty.false) in
    let same : length c.entries.result.now ≡ length entries = ap length c.entries.ensures in
    let low : length entries - 1 < length entries = omega (arith, some, same) in
    let all : length entries - 1 + 1 ≡ length entries = omega (arith, some, same) in
    let at = get_some entries (length entries - 1) low in
    clique_found g.C.Cost.ops c.args.frame.now c.args.weights.now c.args.old.now c.args.cell (length entries - 1) at.0 c.requires.exact at.1 all

pub returns : goal.returns
returns g c =
    let exact = exact_clique g.C.Cost.ops c.args.frame.now c.args.weights.now c.args.old.now c.args.cell c.clique-clique.result c.requires.exact c.clique-clique.ensures in
    on_ok_weaker c.extend_from_row.result (λ e. (c.clique-clique.result, e, exact)) c.extend_from_row.ensures.appended
