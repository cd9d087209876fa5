use Rattle.std.proofs.Common.{codes, [], ◌∷◌}
use Rattle.json_text.specs.Values.{tenths}
use Rattle.json_text.specs.WholeLaws.{object_written}
use Rattle.worked_texts.specs.Replies.{two_nodes}
use Rattle.worked_texts.proofs.json.push_place.Goals as goal

pub returns : goal.returns
returns c =
    rw (c.in_ok-end_object.ensures.ok, c.in_ok-tenths.ensures.ok, c.in_ok-key-2.ensures.ok, c.in_ok-push_two_nodes.ensures, c.in_ok-key.ensures.ok, c.in_ok-begin_object.ensures.ok)
    (object_written ((codes "nodes", two_nodes) ∷ (codes "distance", tenths 0) ∷ []) c.args.json.now)
