use Rattle.cell_partition.proofs.Orders.{first_in_order, second_in_order}
use Rattle.cell_partition.proofs.part.Part.across_halves.Goals as goal

pub returns-clause-first : goal.returns-clause-first
returns-clause-first c =
    first_in_order c.args.self.axis c.args.self.along.now c.args.self.across.now c.loop-spot.first.items c.args.half c.loop-spot.spot-index _ c.requires.inside c.loop-spot-test.false c.requires.in_order c.loop-spot.invariant.first

pub returns-clause-second : goal.returns-clause-second
returns-clause-second c =
    second_in_order c.args.self.axis c.args.self.along.now c.args.self.across.now c.loop-spot.second.items c.args.half c.loop-spot.spot-index _ c.requires.inside c.loop-spot-test.false c.requires.in_order c.loop-spot.invariant.second
