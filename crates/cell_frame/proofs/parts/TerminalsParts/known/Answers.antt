-- The highest cells without a terminal are parts.
use Rattle.cell_frame.proofs.Levels.{AreParts-free, free_level_le}
use Rattle.cell_frame.proofs.parts.TerminalsParts.known.Goals as goal

pub returns-clause-parts : goal.returns-clause-parts
returns-clause-parts c = AreParts-free c.args.frame.now.cells c.known.ensures.kept c.args.self.now.vertices.now

pub returns-clause-high : goal.returns-clause-high
returns-clause-high c = free_level_le c.args.frame.now.cells c.known.ensures.kept c.args.self.now.vertices.now
