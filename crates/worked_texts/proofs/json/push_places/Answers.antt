use Rattle.std.proofs.Common.{[], ◌∷◌}
use Rattle.json_text.specs.Wholes.{object_of}
use Rattle.json_text.specs.WholeLaws.{array_written}
use Rattle.worked_texts.specs.Replies.{place}
use Rattle.worked_texts.proofs.json.push_places.Goals as goal

pub returns : goal.returns
returns c =
    rw (c.in_ok-end_list.ensures.ok, c.in_ok-push_nothing.ensures, c.in_ok-push_place.ensures, c.in_ok-begin_list.ensures.ok)
    (array_written (place ∷ object_of [] ∷ []) c.args.json.now)
