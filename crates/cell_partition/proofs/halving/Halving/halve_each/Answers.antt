use Rattle.std.proofs.Common.{◌+◌, ◌<◌, ◌≤◌, List, length, subst, arith}
use Rattle.std.proofs.lemmas.List.{take_all}
use Rattle.cell_partition.specs.declared.spot.Spot.{Spot}
use Rattle.cell_partition.specs.Halving.{AreHalved}
use Rattle.cell_partition.proofs.InOrder.{parts_sizes, each_fits, each_added}
use Rattle.cell_partition.proofs.halving.Halving.halve_each.Goals as goal

pub part-requires : goal.part-requires
part-requires g c = (c.requires.1.1, omega (arith, (parts_sizes c.args.parts.now g.above c.requires.1.1).1, c.args.parts.now.axes.ok.0, c.len-number-end.ensures))

pub halve-requires-clause-fits : goal.halve-requires-clause-fits
halve-requires-clause-fits g c =
    let inside : c.loop-number.number < length g.above = omega (arith, (parts_sizes c.args.parts.now g.above c.requires.1.1).1, c.args.parts.now.axes.ok.0, c.len-number-end.ensures) in
    let fits : length c.loop-number.halves.along.items + length c.part.result.along.now ≤ length c.args.parts.now.along.items =
    each_fits c.args.self.limit c.args.parts.now g.above c.loop-number.number c.loop-number.halves c.part.result.along.now c.requires.1.1 inside c.part.ensures.part c.loop-number.invariant in
    let small : length c.loop-number.halves.along.items + length c.part.result.along.now < 4294967296 = omega (arith, fits, c.requires.1.0) in
    small

pub loop-number-preserved : goal.loop-number-preserved
loop-number-preserved g c =
    let inside : c.loop-number.number < length g.above = omega (arith, (parts_sizes c.args.parts.now g.above c.requires.1.1).1, c.args.parts.now.axes.ok.0, c.len-number-end.ensures) in
    each_added c.args.self.limit g.above c.loop-number.number c.part.result.along.now c.loop-number.halves c.halve.new.parts inside c.part.ensures.part c.loop-number.invariant c.in_ok-halve.ensures

pub returns : goal.returns
returns g c =
    let past : length g.above ≤ c.loop-number.number = omega (arith, (parts_sizes c.args.parts.now g.above c.requires.1.1).1, c.args.parts.now.axes.ok.0, c.len-number-end.ensures) in
    let done = c.loop-number.invariant in
    (done.0, subst (λ (ps : List (List Spot)). AreHalved c.args.self.limit ps done.0) (take_all c.loop-number.number g.above past) done.1, done.2)
