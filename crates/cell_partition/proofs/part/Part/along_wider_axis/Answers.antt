use Rattle.cell_partition.proofs.Orders.{turned}
use Rattle.cell_partition.proofs.part.Part.along_wider_axis.Goals as goal

pub returns-in-Longitude-Latitude-clause-in_order : goal.returns-in-Longitude-Latitude-clause-in_order
returns-in-Longitude-Latitude-clause-in_order c = turned c.args.self.axis c.other.result c.args.self.along.now c.args.self.across.now c.other.ensures c.requires.in_order
