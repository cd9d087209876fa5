-- The cell of a terminal holds it at each level.
use Rattle.cell_frame.proofs.Levels.{free_level-terminal}
use Rattle.cell_frame.proofs.parts.Terminals.alone.Goals as goal

pub returns : goal.returns
returns c = free_level-terminal c.args.frame.now.cells c.known.ensures.kept c.args.self.now.vertices.now
