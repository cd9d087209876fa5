use Rattle.std.proofs.Common.{[]}
use Rattle.json_text.specs.WholeLaws.{object_written}
use Rattle.worked_texts.proofs.json.push_nothing.Goals as goal

pub returns : goal.returns
returns c =
    rw (c.in_ok-end_object.ensures.ok, c.in_ok-begin_object.ensures.ok)
    (object_written [] c.args.json.now)
