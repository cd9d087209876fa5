-- The steps of a leg, and what a driver is told where each begins (OSRM's HTTP API, version 1; that a mode is
-- always `driving` is this project's rule).
use Rattle.std.specs.Prelude.{ℕ, Bool, pos, List, [], ◌∷◌, ◌++◌, codes, map, Option, option_map, if◌then◌else◌}
use Rattle.road_base.specs.declared.directions.Modifier.{Modifier}
use Rattle.road_base.specs.declared.directions.Modifier.TheVariants as bend
use Rattle.way_profile.specs.Vehicle.{ProfileView}
use Rattle.json_text.specs.Values.{JsonValue, text, whole}
use Rattle.json_text.specs.Wholes.{array_of, object_of, optional_member}
use Rattle.option_values.specs.declared.option_types.Geometries.{Geometries}
use Rattle.route_steps.specs.declared.maneuvers.Maneuver.{Maneuver}
use Rattle.route_steps.specs.declared.maneuvers.ManeuverKind.{ManeuverKind}
use Rattle.route_steps.specs.declared.maneuvers.ManeuverKind.TheVariants as kind
use Rattle.route_steps.specs.declared.step_lists.Step.{Step}
use Rattle.step_texts.specs.Intersections.{intersection_value}
use Rattle.step_texts.specs.Lines.{line_value, point_value}
use Rattle.step_texts.specs.Totals.{leg_totals, totals_members}
use Rattle.step_texts.specs.declared.driving_sides.DrivingSide.{DrivingSide}
use Rattle.step_texts.specs.declared.driving_sides.DrivingSide.TheVariants as side

-- what a driver is to do
abbrev pub kind_text : ManeuverKind → List ℕ
kind_text kind.Depart = codes "depart"
kind_text kind.Arrive = codes "arrive"
kind_text kind.Turn = codes "turn"
kind_text kind.Continue = codes "continue"
kind_text kind.NewName = codes "new name"
kind_text kind.Roundabout = codes "roundabout"
kind_text kind.ExitRoundabout = codes "exit roundabout"

-- how a turn bends
abbrev pub modifier_text : Modifier → List ℕ
modifier_text bend.Straight = codes "straight"
modifier_text bend.SlightRight = codes "slight right"
modifier_text bend.Right = codes "right"
modifier_text bend.SharpRight = codes "sharp right"
modifier_text bend.Uturn = codes "uturn"
modifier_text bend.SharpLeft = codes "sharp left"
modifier_text bend.Left = codes "left"
modifier_text bend.SlightLeft = codes "slight left"

-- the side of the road that the vehicle of a profile drives on, and its name
abbrev pub driving_side : ProfileView → DrivingSide
driving_side profile = if profile.left_side then side.Left else side.Right

abbrev pub side_text : DrivingSide → List ℕ
side_text side.Right = codes "right"
side_text side.Left = codes "left"

-- how the turn bends, where there is one, and by which exit a roundabout is left, where that is told
abbrev pub turn_members : Option Modifier → Option ℕ → List (List ℕ × JsonValue)
turn_members modifier exit =
    optional_member (codes "modifier") (option_map (λ bend. text (modifier_text bend)) modifier) ++ optional_member (codes "exit") (option_map (λ number. whole (pos number)) exit)

-- bearings are whole degrees; a maneuver that is no turn has no modifier
unfoldable pub maneuver_value : Maneuver → JsonValue
maneuver_value maneuver = object_of (
    (codes "location", point_value maneuver.location)
    ∷ (codes "bearing_before", whole (pos maneuver.before))
    ∷ (codes "bearing_after", whole (pos maneuver.after))
    ∷ (codes "type", text (kind_text maneuver.kind))
    ∷ turn_members maneuver.modifier maneuver.exit
    )

-- a step of a vehicle that drives on this side, with its line in the form that is asked for
unfoldable pub step_value : Geometries → DrivingSide → Step → JsonValue
step_value form side step = object_of (
    totals_members (leg_totals step.cost)
    ++ (codes "geometry", line_value form step.points)
    ∷ (codes "name", text step.name)
    ∷ (codes "mode", text (codes "driving"))
    ∷ (codes "driving_side", text (side_text side))
    ∷ (codes "maneuver", maneuver_value step.maneuver)
    ∷ (codes "intersections", array_of (map intersection_value step.intersections)) ∷ []
    )

-- the steps of a leg, none of them unless they are asked for
unfoldable pub steps_value : Bool → Geometries → DrivingSide → List Step → JsonValue
steps_value asked form side steps = array_of (if asked then map (step_value form side) steps else [])
