use Rattle.std.proofs.Common.{[], ◌∷◌, ℕ, List, ap, codes, refl, rules, w64, ◌∙◌}
use mir.Val.{SFits}
use Rattle.std.specs.List.{slice_get}
use Rattle.std.proofs.lemmas.Int.{to_z-of_z}
use Rattle.json_text.specs.Values.{JsonValue, whole}
use Rattle.json_text.specs.Drafts.{with_key}
use Rattle.json_text.specs.Wholes.{with_members}
use Rattle.json_text.specs.WholeLaws.{array_written}
use Rattle.reply_texts.proofs.WaypointLemmas.{nodes-is}
use Rattle.reply_texts.proofs.waypoints.push_nodes.Goals as goal

pub returns-clause-ok : goal.returns-clause-ok
returns-clause-ok c =
    let segments = c.args.network.now.segments in
    let tail : SFits w64 c.tail.result = search rules in
    let head : SFits w64 c.head.result = search rules in
    rw (c.in_ok-end_list.ensures.ok, c.in_ok-whole-2.ensures.ok, c.in_ok-whole.ensures.ok, c.in_ok-begin_list.ensures.ok, c.in_ok-key.ensures.ok)
    (simp to_z-of_z (array_written (whole c.tail.result ∷ whole c.head.result ∷ []) (with_key (codes "nodes") c.args.json.now)
    ∙ ap (λ (members : List (List ℕ × JsonValue)). with_members members c.args.json.now) (nodes-is segments c.args.segment c.tail.result c.head.result (slice_get segments c.args.segment) refl c.tail.ensures c.head.ensures c.requires.placed)))
