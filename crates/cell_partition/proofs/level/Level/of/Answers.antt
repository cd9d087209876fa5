use Rattle.std.proofs.Common.{◌∙◌}
use Rattle.cell_partition.proofs.Kept.{made_level}
use Rattle.cell_partition.proofs.level.Level.of.Goals as goal

pub returns-clause-level : goal.returns-clause-level
returns-clause-level g c = (made_level (record { order = c.in_ok-order.order; bounds = c.args.bounds }) g.cells (c.in_ok-order.ensures ∙ c.requires.0) c.requires.1.0 c.requires.1.1).0

pub returns-clause-cells : goal.returns-clause-cells
returns-clause-cells g c = (made_level (record { order = c.in_ok-order.order; bounds = c.args.bounds }) g.cells (c.in_ok-order.ensures ∙ c.requires.0) c.requires.1.0 c.requires.1.1).1
