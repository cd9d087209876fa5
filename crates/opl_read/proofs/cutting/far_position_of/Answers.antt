-- A search of memory finds the position of the byte.
use Rattle.std.proofs.Common.{eqb}
use Rattle.opl_read.proofs.Searches.{position-IsFirstByte}
use Rattle.opl_read.proofs.cutting.far_position_of.Goals as goal

pub returns : goal.returns
returns c = position-IsFirstByte (λ b. eqb b c.args.byte) c.args.text.now c.memchr.result c.memchr.ensures
