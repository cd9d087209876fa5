-- The steps of a walk (those of OSRM's route service; which turns are told is this project's rule): the walk is
-- cut where a driver is told of a turn, and what a step says is told by the two places between which it lies.
-- Place k of a walk is where its vertex k begins; the place behind the last vertex is where the walk ends.
use Rattle.std.specs.Prelude.{ℕ, ◌+◌, ◌-◌, ◌==◌, ◌<◌, ◌≤◌, List, [], ◌∷◌, ◌++◌, All, Option, None, Some, drop, if◌then◌else◌, length, map, option_map, slice_index, slice_range}
use Rattle.std.specs.List.{filter_map, flat_map, range_with_len, zip}
use Rattle.road_base.specs.declared.coordinates.Point.{Point}
use Rattle.road_base.specs.declared.segments.Place.{Place}
use Rattle.search_graph.specs.declared.costs.WeightDurLen.{WeightDurLen}
use Rattle.search_graph.specs.RoadCosts.{road_cost_ops}
use Rattle.edge_graph.specs.NetworkView.{NetworkView}
use Rattle.road_places.specs.Paid.{paid_along, total_of}
use Rattle.metric_make.specs.RoadMetric.{RoadMetric}
use Rattle.route_steps.specs.Intersections.{arrival_on, intersections_between}
use Rattle.route_steps.specs.Points.{point_in, points_along}
use Rattle.route_steps.specs.Roundabouts.{exit_at}
use Rattle.route_steps.specs.Turnings.{bearing_on, maneuver_at, name_on, turns_paid}
use Rattle.route_steps.specs.declared.begins.Begin.{Begin}
use Rattle.route_steps.specs.declared.maneuvers.Maneuver.{Maneuver}
use Rattle.route_steps.specs.declared.maneuvers.ManeuverKind.TheVariants.{Arrive, Depart}
use Rattle.route_steps.specs.declared.step_lists.Step.{Step}

-- a walk begins with the departure
abbrev pub departure : Begin
departure = record { place = 0; kind = Depart; modifier = None; exit = None }

-- a step begins at place k of a walk, if something is told there
abbrev pub begin_at : NetworkView → List ℕ → ℕ → Option Begin
begin_at network walk k = option_map (λ m. record { place = k; kind = m.0; modifier = Some m.1; exit = exit_at network walk k }) (maneuver_at network walk k)

-- where the steps of a walk begin: at its first vertex, and at each turn that is told
abbrev pub begins_along : NetworkView → List ℕ → List Begin
begins_along network walk = departure ∷ filter_map (begin_at network walk) (range_with_len 1 (length walk - 1))

-- each begin of a step with the place where that step ends: where the next one begins, the last at place n
abbrev pub pieces : List Begin → ℕ → List (Begin × ℕ)
pieces begins n = zip begins (map (λ begin. begin.place) (drop 1 begins) ++ n ∷ [])

-- a piece leads ahead, and not behind place n
abbrev pub LeadsAhead : ℕ → Begin × ℕ → Type 0
LeadsAhead n piece = (piece.0.place < piece.1) × (piece.1 ≤ n)

abbrev pub AreAhead : ℕ → List (Begin × ℕ) → Type 0
AreAhead n pieces = All (LeadsAhead n) pieces

-- what is paid from place i to place j: at the vertices between them, and at the turns (that at place k is number
-- k - 1) from place i on that lie before place j
abbrev pub cost_between : List WeightDurLen → List WeightDurLen → ℕ → ℕ → WeightDurLen
cost_between paid turns i j = road_cost_ops.plus (total_of (slice_range paid i j)) (total_of (slice_range turns (i - 1) (j - 1)))

-- the points from place i to place j, both with their own
abbrev pub points_between : List Point → ℕ → ℕ → List Point
points_between points i j = slice_range points i (j + 1)

-- how a walk comes to place i: at its begin from nowhere, else along the vertex before
abbrev pub bearing_to : NetworkView → List ℕ → ℕ → ℕ
bearing_to network walk i = if i == 0 then 0 else bearing_on network (slice_index walk (i - 1))

-- what is told where a step begins
abbrev pub begin_told : NetworkView → List ℕ → List Point → Begin → Maneuver
begin_told network walk points begin = record {
  location = point_in points begin.place;
  before = bearing_to network walk begin.place;
  after = bearing_on network (slice_index walk begin.place);
  kind = begin.kind;
  modifier = begin.modifier;
  exit = begin.exit;
}

-- the step from a begin to the place where it ends, of a walk with these points, paying this at its vertices and
-- this at its turns
unfoldable pub step_between : NetworkView → List ℕ → List Point → List WeightDurLen → List WeightDurLen → Begin × ℕ → Step
step_between network walk points paid turns piece = record {
  cost = cost_between paid turns piece.0.place piece.1;
  points = points_between points piece.0.place piece.1;
  name = name_on network (slice_index walk piece.0.place);
  maneuver = begin_told network walk points piece.0;
  intersections = intersections_between network walk points piece.0.place piece.1;
}

-- the arrival at the end of the last vertex's part: nothing more is paid, and it leads nowhere
abbrev pub arrival_at : NetworkView → ℕ → Point → Step
arrival_at network last point = record {
  cost = road_cost_ops.zero;
  points = point ∷ point ∷ [];
  name = name_on network last;
  maneuver = record { location = point; before = bearing_on network last; after = 0; kind = Arrive; modifier = None; exit = None };
  intersections = arrival_on network point last ∷ [];
}

-- the steps of a permitted walk from p to q: those between its cuts, and the arrival
unfoldable pub steps_along : RoadMetric → Place → Place → List ℕ → List Step
steps_along road p q walk =
    let points = points_along road.network.segments p q walk in
    map (step_between road.network walk points (paid_along road.weights p q walk) (turns_paid road walk)) (pieces (begins_along road.network walk) (length walk))
    ++ arrival_at road.network (slice_index walk (length walk - 1)) (point_in points (length walk)) ∷ []

-- lines one behind the other; where one ends the next begins, so that point stands once
abbrev pub joined : List (List Point) → List Point
joined [] = []
joined (first ∷ later) = first ++ flat_map (λ points. drop 1 points) later
