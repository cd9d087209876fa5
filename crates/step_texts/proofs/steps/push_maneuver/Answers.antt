use Rattle.std.proofs.Common.{◌∷◌, ◌++◌, [], List, ℕ, ap, codes, pos, sym, ◌∙◌}
use Rattle.std.specs.Prelude.{option_map}
use Rattle.json_text.specs.declared.draft.Container.TheVariants as container
use Rattle.json_text.specs.Values.{JsonValue, text, whole}
use Rattle.json_text.specs.Drafts.{begun, ended}
use Rattle.json_text.specs.Wholes.{optional_member, with_members}
use Rattle.json_text.specs.WholeLaws.{object_written, with_members-append}
use Rattle.step_texts.specs.Lines.{point_value}
use Rattle.step_texts.specs.Steps.{kind_text, maneuver_value, modifier_text}
use Rattle.step_texts.proofs.steps.push_maneuver.Goals as goal

pub returns : goal.returns
unfolding maneuver_value
returns c =
    let maneuver = c.args.maneuver.now in
    let front : List (List ℕ × JsonValue) = (codes "location", point_value maneuver.location) ∷ (codes "bearing_before", whole (pos maneuver.before)) ∷ (codes "bearing_after", whole (pos maneuver.after)) ∷ (codes "type", text (kind_text maneuver.kind)) ∷ [] in
    let modifier = optional_member (codes "modifier") (option_map (λ bend. text (modifier_text bend)) maneuver.modifier) in
    let exit = optional_member (codes "exit") (option_map (λ number. whole (pos number)) maneuver.exit) in
    rw (c.in_ok-end_object.ensures.ok, c.in_ok-push_exit.ensures.ok, c.in_ok-push_modifier.ensures.ok, c.in_ok-text_member.ensures.ok, c.kind_text.ensures, c.in_ok-count_member-2.ensures.ok, c.from-2.ensures, c.in_ok-count_member.ensures.ok, c.from.ensures, c.in_ok-degrees.ensures.ok, c.in_ok-key.ensures.ok, c.in_ok-begin_object.ensures.ok)
    (ap (ended container.Object) (sym (with_members-append modifier exit (with_members front (begun container.Object c.args.json.now))))
    ∙ object_written (front ++ (modifier ++ exit)) c.args.json.now)
