-- Where an exit stands there is its first place, and what is no exit has none.
use Rattle.std.proofs.Common.{◌<◌, ◌≤◌, length, sym, ◌∙◌, ap, arith}
use Rattle.std.proofs.lemmas.Option.{slice_get_within}
use Rattle.cell_frame.specs.Borders.{at_cell}
use Rattle.column_search.proofs.Counting.{exits_few}
use Rattle.column_search.proofs.Finding.{place_is, place_none}
use Rattle.column_search.proofs.backward.exit_place.Goals as goal

pub returns-in-Some-clause-place : goal.returns-in-Some-clause-place
returns-in-Some-clause-place c = sym (place_is (at_cell c.args.frame.now.exits c.args.cell) c.in-Some.i c.args.v (c.known.ensures.exits_ascend c.args.cell c.requires) c.in-Some.ensures.some)

pub returns-in-Some-clause-few : goal.returns-in-Some-clause-few
returns-in-Some-clause-few c =
    let lt : c.in-Some.i < length (at_cell c.args.frame.now.exits c.args.cell) = slice_get_within (at_cell c.args.frame.now.exits c.args.cell) c.in-Some.i c.args.v c.in-Some.ensures.some in
    let le : length (at_cell c.args.frame.now.exits c.args.cell) ≤ c.args.frame.now.graph.vertices = exits_few c.args.frame.now c.known.ensures c.args.cell c.requires in
    omega (arith, lt, le)

pub returns-in-None-clause-place : goal.returns-in-None-clause-place
returns-in-None-clause-place c = ap length c.exits.ensures ∙ sym (place_none (at_cell c.args.frame.now.exits c.args.cell) c.args.v c.in-None.ensures.none)

pub returns-in-None-clause-few : goal.returns-in-None-clause-few
returns-in-None-clause-few c =
    let le : length (at_cell c.args.frame.now.exits c.args.cell) ≤ c.args.frame.now.graph.vertices = exits_few c.args.frame.now c.known.ensures c.args.cell c.requires in
    omega (arith, ap length c.exits.ensures, le)
