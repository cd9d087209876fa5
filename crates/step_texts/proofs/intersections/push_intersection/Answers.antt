use Rattle.std.proofs.Common.{◌∷◌, ◌++◌, [], List, ℕ, ap, codes, sym, ◌∙◌}
use Rattle.json_text.specs.declared.draft.Container.TheVariants as container
use Rattle.json_text.specs.Values.{JsonValue}
use Rattle.json_text.specs.Drafts.{begun, ended}
use Rattle.json_text.specs.Wholes.{with_members}
use Rattle.json_text.specs.WholeLaws.{object_written, with_members-append}
use Rattle.step_texts.specs.Intersections.{bearings_value, entries_value, index_member, intersection_value}
use Rattle.step_texts.specs.Lines.{point_value}
use Rattle.step_texts.proofs.intersections.push_intersection.Goals as goal

pub returns : goal.returns
unfolding intersection_value
returns c =
    let node = c.args.node.now in
    let front : List (List ℕ × JsonValue) = (codes "location", point_value node.location) ∷ (codes "bearings", bearings_value node.bearings) ∷ (codes "entry", entries_value node.entry) ∷ [] in
    let enter = index_member (codes "in") node.enter in
    let leave = index_member (codes "out") node.leave in
    rw (c.in_ok-end_object.ensures.ok, c.in_ok-push_index-2.ensures.ok, c.in_ok-push_index.ensures.ok, c.in_ok-push_entries.ensures, c.as_slice-2.ensures, c.in_ok-key-3.ensures.ok, c.in_ok-push_bearings.ensures, c.as_slice.ensures, c.in_ok-key-2.ensures.ok, c.in_ok-degrees.ensures.ok, c.in_ok-key.ensures.ok, c.in_ok-begin_object.ensures.ok)
    (ap (ended container.Object) (sym (with_members-append enter leave (with_members front (begun container.Object c.args.json.now))))
    ∙ object_written (front ++ (enter ++ leave)) c.args.json.now)
