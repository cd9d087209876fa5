use Rattle.std.proofs.Common.{[], ◌∷◌}
use Rattle.json_text.specs.Values.{null, tenths}
use Rattle.json_text.specs.WholeLaws.{array_written}
use Rattle.worked_texts.proofs.json.push_row.Goals as goal

pub returns : goal.returns
returns c =
    rw (c.in_ok-end_list.ensures.ok, c.in_ok-null.ensures.ok, c.in_ok-tenths.ensures.ok, c.in_ok-begin_list.ensures.ok)
    (array_written (tenths 0 ∷ null ∷ []) c.args.json.now)
