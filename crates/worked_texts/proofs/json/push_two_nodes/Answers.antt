use Rattle.std.proofs.Common.{[], ◌∷◌}
use Rattle.std.specs.Prelude.{pos}
use Rattle.json_text.specs.Values.{whole}
use Rattle.json_text.specs.WholeLaws.{array_written}
use Rattle.worked_texts.proofs.json.push_two_nodes.Goals as goal

pub returns : goal.returns
returns c =
    rw (c.in_ok-end_list.ensures.ok, c.in_ok-whole-2.ensures.ok, c.in_ok-whole.ensures.ok, c.in_ok-begin_list.ensures.ok)
    (array_written (whole (pos 1) ∷ whole (pos 2) ∷ []) c.args.json.now)
