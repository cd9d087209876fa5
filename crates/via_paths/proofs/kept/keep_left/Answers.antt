use Rattle.std.proofs.Common.{◌∙◌, ap}
use Rattle.via_paths.specs.Tries.{left_by}
use Rattle.via_paths.proofs.Keeping.{kept-more}
use Rattle.via_paths.proofs.kept.keep_left.Goals as goal

pub returns : goal.returns
returns c =
    kept-more c.args.ends.now.vertices c.args.fans.now c.args.kept.now c.insert.new.self c.args.at c.in_ok-heads.heads c.requires
    (c.in_ok-heads.ensures ∙ ap (left_by c.args.ends.now.vertices c.args.at.0) c.list_of.ensures)
    c.in_ok-insert.ensures.updates.0
