use Rattle.std.proofs.Common.{◌≡◌, [], List, Bool, true, false, OnOk, map, ap, refl, rules, subst, ◌∙◌}
use Rattle.json_text.specs.Values.{JsonValue}
use Rattle.json_text.specs.Drafts.{with_value}
use Rattle.json_text.specs.Wholes.{array_of}
use Rattle.option_values.specs.declared.option_types.Geometries.{Geometries}
use Rattle.metric_make.specs.RoadMetric.{road_of}
use Rattle.route_steps.specs.Steps.{steps_along}
use Rattle.route_steps.specs.declared.step_lists.Step.{Step}
use Rattle.step_texts.specs.Steps.{driving_side, step_value, steps_value}
use Rattle.step_texts.specs.declared.driving_sides.DrivingSide.{DrivingSide}
use Rattle.reply_texts.proofs.legs.push_leg_steps.Goals as goal

none-told : (asked : Bool) (form : Geometries) (side : DrivingSide) (steps : List Step) → asked ≡ false → array_of [] ≡ steps_value asked form side steps
unfolding steps_value
none-told true form side steps off = cc
none-told false form side steps off = refl

all-told : (asked : Bool) (form : Geometries) (side : DrivingSide) (steps : List Step) → asked ≡ true → array_of (map (step_value form side) steps) ≡ steps_value asked form side steps
unfolding steps_value
all-told true form side steps on = refl
all-told false form side steps on = cc

pub returns-then-not-telling : goal.returns-then-not-telling
returns-then-not-telling c =
    let telling = c.args.telling.now in
    let steps = steps_along (road_of c.args.network.now c.args.base.now) c.args.ends.0 c.args.ends.1 c.args.route.now.walk in
    let off : telling.steps ≡ false = search rules in
    subst (λ (value : JsonValue). OnOk c.push_no_steps.result (c.push_no_steps.new.json ≡ with_value value c.args.json.now))
    (none-told telling.steps telling.geometries (driving_side c.args.network.now.profile) steps off) c.push_no_steps.ensures

pub returns : goal.returns
returns c =
    let telling = c.args.telling.now in
    let along = steps_along (road_of c.args.network.now c.args.base.now) c.args.ends.0 c.args.ends.1 in
    let steps = along c.args.route.now.walk in
    let on : telling.steps ≡ true = search rules in
    let told = c.as_slice-2.ensures ∙ c.in_ok-told.ensures.steps ∙ ap along c.as_slice.ensures in
    let side = c.of-side.ensures ∙ ap driving_side c.profile.ensures in
    subst (λ (value : JsonValue). OnOk c.push_steps.result (c.push_steps.new.json ≡ with_value value c.args.json.now))
    (ap (λ (xs : List Step). array_of (map (step_value telling.geometries c.of-side.result) xs)) told
    ∙ ap (λ (x : DrivingSide). array_of (map (step_value telling.geometries x) steps)) side
    ∙ all-told telling.steps telling.geometries (driving_side c.args.network.now.profile) steps on) c.push_steps.ensures
