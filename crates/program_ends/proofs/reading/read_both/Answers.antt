-- The second file stands behind the first.
use Rattle.std.proofs.Common.{[], ◌∷◌}
use Rattle.program_ends.specs.ReadLaws.{left_before, left_then}
use Rattle.program_ends.proofs.reading.read_both.Goals as goal

pub returns-in-Err-clause-unread : goal.returns-in-Err-clause-unread
returns-in-Err-clause-unread g c =
    left_before (g.F.Files.view c.args.files.now) (g.F.Files.view c.read_file.new.files) (c.args.map.now ∷ []) (c.args.settings.now ∷ []) c.in-Err.unread.name.now c.in-Err.unread.fault c.in-Err.ensures.unread

pub returns-in-Err-read_file-clause-unread : goal.returns-in-Err-read_file-clause-unread
returns-in-Err-read_file-clause-unread g c =
    left_then (g.F.Files.view c.args.files.now) (g.F.Files.view c.read_file.new.files) (g.F.Files.view c.read_file-in-Ok.new.files) ((c.args.map.now, c.in-Ok.map_bytes.items) ∷ []) (c.args.settings.now ∷ []) c.in-Err-read_file.unread.name.now c.in-Err-read_file.unread.fault
    c.in-Ok.ensures.read c.in-Err-read_file.ensures.unread
