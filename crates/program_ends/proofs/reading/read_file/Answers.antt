use Rattle.program_ends.proofs.OneRead.{left_one}
use Rattle.program_ends.proofs.reading.read_file.Goals as goal

pub returns-in-Err-clause-unread : goal.returns-in-Err-clause-unread
returns-in-Err-clause-unread g c =
    left_one (g.F.Files.view c.args.files.now) (g.F.Files.view c.read.new.self) c.args.name.now c.in-Err.fault c.in-Err.ensures.asked c.in-Err.ensures.told c.in-Err.ensures.cause
