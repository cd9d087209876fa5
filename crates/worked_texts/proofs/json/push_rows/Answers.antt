use Rattle.std.proofs.Common.{[], ◌∷◌}
use Rattle.json_text.specs.Wholes.{array_of}
use Rattle.json_text.specs.WholeLaws.{array_written}
use Rattle.worked_texts.specs.Replies.{row}
use Rattle.worked_texts.proofs.json.push_rows.Goals as goal

pub returns : goal.returns
returns c =
    rw (c.in_ok-end_list.ensures.ok, c.in_ok-push_no_row.ensures, c.in_ok-push_row.ensures, c.in_ok-begin_list.ensures.ok)
    (array_written (row ∷ array_of [] ∷ []) c.args.json.now)
