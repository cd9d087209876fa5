-- Which of both files was not read.
use Rattle.line_session.proofs.ReadLaws.{left_first, left_second}
use Rattle.line_session.proofs.replying.read_both.Goals as goal

pub returns-in-Err-clause-left : goal.returns-in-Err-clause-left
returns-in-Err-clause-left g c = left_first c.in-Err.why (c.args.speeds.now, c.args.turns.now) (g.F.Files.view c.args.files.now) (g.F.Files.view c.read_named.new.files) c.in-Err.ensures.left

pub returns-in-Err-read_named-clause-left : goal.returns-in-Err-read_named-clause-left
returns-in-Err-read_named-clause-left g c =
    left_second c.in-Err-read_named.why (c.args.speeds.now, c.args.turns.now) (g.F.Files.view c.args.files.now) (g.F.Files.view c.read_named.new.files) (g.F.Files.view c.read_named-2.new.files)
    c.in-Ok.ensures.read c.in-Err-read_named.ensures.left
