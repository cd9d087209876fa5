-- Routes and their legs (OSRM's HTTP API, version 1).
use Rattle.std.specs.Prelude.{ℕ, zero, suc, ℤ, ◌||◌, Bool, List, [], ◌∷◌, ◌++◌, codes, drop, map, sum_by}
use Rattle.road_base.specs.declared.coordinates.Point.{Point}
use Rattle.way_profile.specs.Vehicle.{ProfileView}
use Rattle.search_graph.specs.declared.costs.WeightDurLen.{WeightDurLen}
use Rattle.json_text.specs.Values.{JsonValue, text, whole}
use Rattle.json_text.specs.Wholes.{array_of, object_of, optional_member}
use Rattle.option_values.specs.declared.option_types.RouteAnnotations.{RouteAnnotations}
use Rattle.route_steps.specs.Steps.{joined}
use Rattle.route_steps.specs.declared.step_lists.Step.{Step}
use Rattle.url_read.specs.declared.requests.Telling.{Telling}
use Rattle.reply_texts.specs.Costs.{costs_value}
use Rattle.step_texts.specs.Lines.{overview_line}
use Rattle.reply_texts.specs.Optional.{member_if}
use Rattle.step_texts.specs.Steps.{driving_side, steps_value}
use Rattle.step_texts.specs.Totals.{leg_totals, totals_members, weight_name, weight_text}
use Rattle.step_texts.specs.declared.totals.Totals.{Totals}
use Rattle.reply_texts.specs.declared.cost_parts.CostPart.TheVariants as part
use Rattle.step_texts.specs.declared.driving_sides.DrivingSide.{DrivingSide}

-- a leg of a route: what it costs; what is paid of each of its vertices, and the nodes that these join; the points
-- of its line; and its steps
pub record Leg : Type 0 where
  pub cost : WeightDurLen
  pub paid : List WeightDurLen
  pub nodes : List ℤ
  pub points : List Point
  pub steps : List Step

-- some annotation is asked for
abbrev pub is_annotated : RouteAnnotations → Bool
is_annotated asked = asked.distance || asked.duration || asked.weight || asked.nodes || asked.speed

unfoldable pub nodes_value : List ℤ → JsonValue
nodes_value nodes = array_of (map whole nodes)

-- of each vertex of a walk what is paid of it, and the nodes that these join
unfoldable pub annotation_value : RouteAnnotations → List WeightDurLen → List ℤ → JsonValue
annotation_value asked paid nodes = object_of (
    member_if asked.distance (codes "distance") (costs_value part.Length paid)
    ++ member_if asked.duration (codes "duration") (costs_value part.Duration paid)
    ++ member_if asked.weight (codes "weight") (costs_value part.Weight paid)
    ++ member_if asked.nodes (codes "nodes") (nodes_value nodes)
    ++ member_if asked.speed (codes "speed") (costs_value part.Speed paid)
    )

-- the sums over the legs of a route
abbrev pub route_totals : List WeightDurLen → Totals
route_totals costs = record {
  length = sum_by (λ cost. cost.length) costs;
  duration = sum_by (λ cost. cost.duration) costs;
  weight = sum_by (λ cost. cost.weight) costs;
}

-- of a leg's points those that stand behind the legs before it, of which there are so many
abbrev pub points_behind : ℕ → List Point → List Point
points_behind zero points = points
points_behind (suc legs) points = drop 1 points

-- a leg, driven on this side of the road
unfoldable pub leg_value : Telling → DrivingSide → Leg → JsonValue
leg_value telling side leg = object_of (
    totals_members (leg_totals leg.cost)
    ++ (codes "summary", text []) ∷ (codes "steps", steps_value telling.steps telling.geometries side leg.steps)
    ∷ member_if (is_annotated telling.annotations) (codes "annotation") (annotation_value telling.annotations leg.paid leg.nodes)
    )

-- a route of these legs, with the line through all of them, for the vehicle of a profile, which says what is least and
-- on which side it drives
unfoldable pub route_value : Telling → ProfileView → List Leg → JsonValue
route_value telling profile legs = object_of (
    totals_members (route_totals (map (λ leg. leg.cost) legs))
    ++ (codes "weight_name", text (weight_text (weight_name profile)))
    ∷ (optional_member (codes "geometry") (overview_line telling.overview telling.geometries (joined (map (λ leg. leg.points) legs)))
    ++ (codes "legs", array_of (map (leg_value telling (driving_side profile)) legs)) ∷ [])
    )
