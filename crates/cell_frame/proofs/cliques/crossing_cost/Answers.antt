-- An arc and a vertex are within a unit each, and a vertex has one cost or none.
use Rattle.std.proofs.Common.{◌^◌, Some, None, sym, ◌∙◌, arith}
use Rattle.std.proofs.lemmas.Option.{same_Some}
use Rattle.cell_frame.proofs.Crossed.{none_some}
use Rattle.cell_frame.proofs.cliques.crossing_cost.Goals as goal

pub plus-requires : goal.plus-requires
plus-requires g c =
    let laws = g.met.C.Cost.laws in
    let small = c.requires.weights in
    laws.units_more _ 2 (2 ^ 31) (laws.plus_units _ _ 1 1 (small.arc_unit c.args.crossing.arc _ c.arc.ensures) (small.vertex_unit _ _ c.in-Some.ensures)) (omega arith)

pub returns-in-None : goal.returns-in-None
returns-in-None g c = λ x is. none_some x (same_Some None (Some x) (sym c.in-None.ensures ∙ is))

pub returns-in-Some : goal.returns-in-Some
returns-in-Some g c = (c.arc.result, c.in-Some.cost, c.arc.ensures, c.in-Some.ensures, c.plus.ensures)
