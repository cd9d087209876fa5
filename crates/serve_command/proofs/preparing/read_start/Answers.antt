-- Each file stands behind those that were read before it.
use Rattle.command_words.specs.Commands.{serving_seen}
use Rattle.serve_command.proofs.StartLaws.{left_both, left_speeds, left_turns}
use Rattle.serve_command.proofs.preparing.read_start.Goals as goal

pub returns-in-Err-clause-unread : goal.returns-in-Err-clause-unread
returns-in-Err-clause-unread g c =
    left_both (g.F.Files.view c.args.files.now) (g.F.Files.view c.read_both.new.files) (serving_seen c.args.what.now) c.in-Err.unread.name.now c.in-Err.unread.fault c.in-Err.ensures.unread

pub returns-in-Err-read_named-clause-unread : goal.returns-in-Err-read_named-clause-unread
returns-in-Err-read_named-clause-unread g c =
    left_speeds (g.F.Files.view c.args.files.now) (g.F.Files.view c.read_both.new.files) (g.F.Files.view c.read_named.new.files) (serving_seen c.args.what.now) c.in-Ok.map.items c.in-Ok.settings.items c.in-Err-read_named.unread.name.now c.in-Err-read_named.unread.fault
    c.in-Ok.ensures.read c.in-Err-read_named.ensures.unread

pub returns-in-Err-read_named-2-clause-unread : goal.returns-in-Err-read_named-2-clause-unread
returns-in-Err-read_named-2-clause-unread g c =
    left_turns (g.F.Files.view c.args.files.now) (g.F.Files.view c.read_both.new.files) (g.F.Files.view c.read_named.new.files) (g.F.Files.view c.read_named-in-Ok-read_named.new.files) (serving_seen c.args.what.now) c.in-Ok.map.items c.in-Ok.settings.items c.in-Ok-read_named.speeds.items c.in-Err-read_named-2.unread.name.now c.in-Err-read_named-2.unread.fault
    c.in-Ok.ensures.read c.in-Ok-read_named.ensures.read c.in-Err-read_named-2.ensures.unread
