-- An arc and a vertex are within a unit each.
use Rattle.std.proofs.Common.{◌^◌, arith}
use Rattle.cell_frame.proofs.over.Over.along.Goals as goal

pub plus-cost-requires : goal.plus-cost-requires
plus-cost-requires g c =
    let laws = g.met.C.Cost.laws in
    let small = c.requires.weights in
    laws.units_more _ 2 (2 ^ 31) (laws.plus_units _ _ 1 1 (small.arc_unit c.args.arc _ c.arc.ensures) (small.vertex_unit _ _ c.in-Some.ensures)) (omega arith)
