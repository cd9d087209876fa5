use Rattle.std.proofs.Common.{[], ◌∷◌, ◌++◌, List, ap, codes, drop, sym, ◌∙◌}
use Rattle.std.specs.Prelude.{map}
use Rattle.std.specs.List.{zip}
use Rattle.list_lemmas.proofs.Fronts.{all_zip-length}
use Rattle.json_text.specs.declared.draft.Container.TheVariants as container
use Rattle.json_text.specs.Values.{text}
use Rattle.json_text.specs.Drafts.{begun, ended}
use Rattle.json_text.specs.Wholes.{array_of, optional_member, with_member, with_members}
use Rattle.json_text.specs.WholeLaws.{object_written, with_members-append}
use Rattle.metric_make.specs.RoadMetric.{road_of}
use Rattle.route_steps.specs.Steps.{joined}
use Rattle.reply_texts.specs.Legs.{Leg, leg_value, route_totals, route_value}
use Rattle.step_texts.specs.Lines.{overview_line}
use Rattle.reply_texts.specs.RouteLegs.{legs_told}
use Rattle.step_texts.specs.Steps.{driving_side}
use Rattle.step_texts.specs.Totals.{totals_members, weight_name, weight_text}
use Rattle.reply_texts.proofs.LegLemmas.{costs-of}
use Rattle.reply_texts.proofs.route_texts.push_route.Goals as goal

pub returns : goal.returns
unfolding route_value
returns c =
    let telling = c.args.telling.now in
    let places = c.args.places.now in
    let routes = c.args.routes.now in
    let road = road_of c.args.network.now c.args.base.now in
    let legs = legs_told road places routes in
    let costs = costs-of road (zip places (drop 1 places)) routes (all_zip-length _ (zip places (drop 1 places)) routes c.requires.permitted) in
    let line = optional_member (codes "geometry") (overview_line telling.overview telling.geometries (joined (map (λ (leg : Leg). leg.points) legs))) in
    let name = weight_text (weight_name c.args.network.now.profile) in
    let last = (codes "legs", array_of (map (leg_value telling (driving_side c.args.network.now.profile)) legs)) ∷ [] in
    let front = totals_members (route_totals (map (λ (leg : Leg). leg.cost) legs)) in
    rw (c.in_ok-end_object.ensures.ok, c.in_ok-push_legs.ensures, c.in_ok-key.ensures.ok, c.in_ok-push_route_line.ensures.ok, c.in_ok-text_member.ensures.ok, c.text.ensures, c.of-name.ensures, c.profile.ensures, c.in_ok-push_totals.ensures.ok, c.route_totals.ensures, c.in_ok-begin_object.ensures.ok)
    (rw (← costs)
    (ap (ended container.Object) (sym (with_members-append line last (with_member (codes "weight_name") (text name) (with_members front (begun container.Object c.args.json.now)))))
    ∙ object_written (front ++ (codes "weight_name", text name) ∷ (line ++ last)) c.args.json.now))
