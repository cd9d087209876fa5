-- The cells below that don't hold the target are parts.
use Rattle.column_search.proofs.Levels.{AreToward-cell}
use Rattle.column_search.proofs.toward.Toward.lies.Goals as goal

pub returns : goal.returns
returns c = AreToward-cell c.args.frame.now c.known.ensures c.args.self.now.cell c.requires.cell c.args.self.now.target
