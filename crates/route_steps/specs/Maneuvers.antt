-- What a driver is told at a turn, if anything (a `maneuver` of OSRM's route service; the table is this project's
-- rule).
use Rattle.std.specs.Prelude.{Bool, true, false, Option, Some, None}
use Rattle.road_base.specs.declared.directions.Modifier.{Modifier}
use Rattle.road_base.specs.declared.directions.Modifier.TheVariants.{Straight, SlightRight, SlightLeft, Uturn}
use Rattle.route_steps.specs.declared.maneuvers.ManeuverKind.{ManeuverKind}
use Rattle.route_steps.specs.declared.maneuvers.ManeuverKind.TheVariants.{Turn, Continue, NewName, Roundabout, ExitRoundabout}

-- the table of turns, by whether the turn leads back onto its own segment, whether there are two exits or more,
-- whether the roads before and after it have one name, and how it bends
abbrev pub told : (back several same_name : Bool) → Modifier → Option (ManeuverKind × Modifier)
told true several same_name bend = Some (Continue, Uturn)
told false false true bend = None
told false false false bend = Some (NewName, bend)
told false true true Straight = None
told false true true bend = Some (Continue, bend)
told false true false Straight = Some (NewName, Straight)
told false true false SlightRight = Some (NewName, SlightRight)
told false true false SlightLeft = Some (NewName, SlightLeft)
told false true false bend = Some (Turn, bend)

-- the same with roundabouts, by whether the turn leads back onto its own segment, whether the vertex before it and that
-- behind it are round, what the table says of it, and how it bends: turns back come first, and inside a roundabout
-- nothing is told
abbrev pub told_round : (back before behind : Bool) → Option (ManeuverKind × Modifier) → Modifier → Option (ManeuverKind × Modifier)
told_round true before behind by_table bend = by_table
told_round false true true by_table bend = None
told_round false false true by_table bend = Some (Roundabout, bend)
told_round false true false by_table bend = Some (ExitRoundabout, bend)
told_round false false false by_table bend = by_table
