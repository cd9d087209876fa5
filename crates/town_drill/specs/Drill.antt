-- What a drill tells (this project's rule): for each of four metrics of a generated town one line on sixteen trips.
use Rattle.std.specs.Prelude.{◌≡◌, ℕ, ◌/◌, ◌%◌, Bool, true, false, List, [], ◌++◌, codes, count_by, sum_by, Ok}
use Rattle.std.specs.Fmt.{decimal}
use Rattle.std.specs.List.{AllZip, flat_map, range_with_len}
use Rattle.edge_graph.specs.NetworkView.{NetworkView}
use Rattle.map_loading.specs.Loading.{load_of}
use Rattle.metric_make.specs.MetricOf.{metric_of}
use Rattle.metric_make.specs.RoadMetric.{RoadMetric, road_of}
use Rattle.town_text.specs.Town.{town_text}
use Rattle.town_drill.specs.Asked.{node_position, settings_text, speed_rows, start_of, stop_of}
use Rattle.town_drill.specs.Trips.{IsTrip}
use Rattle.town_drill.specs.declared.trips.Trip.{Trip}
use Rattle.town_drill.specs.declared.trips.Trip.TheVariants.{Arrives, NoRoute, NoPlace}

abbrev pub is_arrival : Trip → Bool
is_arrival (Arrives deciseconds) = true
is_arrival NoRoute = false
is_arrival NoPlace = false

abbrev pub is_cut_off : Trip → Bool
is_cut_off (Arrives deciseconds) = false
is_cut_off NoRoute = true
is_cut_off NoPlace = false

-- the deciseconds of a trip that arrives
abbrev pub deciseconds_of : Trip → ℕ
deciseconds_of (Arrives deciseconds) = deciseconds
deciseconds_of NoRoute = 0
deciseconds_of NoPlace = 0

-- how many trips arrive under metric k, and how many have no route
unfoldable pub counts_text : (k ok none : ℕ) → List ℕ
counts_text k ok none = codes "metric " ++ (decimal k ++ (codes " ok " ++ (decimal ok ++ (codes " none " ++ decimal none))))

-- how many seconds so many deciseconds are, with one decimal
unfoldable pub duration_text : ℕ → List ℕ
duration_text deciseconds = codes " duration " ++ (decimal (deciseconds / 10) ++ (codes "." ++ (decimal (deciseconds % 10) ++ codes "\n")))

-- the line on the trips under metric k; those that arrive take so long together
unfoldable pub line_text : ℕ → List Trip → List ℕ
line_text k trips = counts_text k (count_by is_arrival trips) (count_by is_cut_off trips) ++ duration_text (sum_by deciseconds_of trips)

-- metric k of a town
abbrev pub metric_road : NetworkView → (n k : ℕ) → RoadMetric
metric_road network n k = road_of network (metric_of network (speed_rows n k) [])

-- the sixteen trips under metric k, in their order
abbrev pub AreTrips : RoadMetric → (n k : ℕ) → List ℕ → List Trip → Type 0
AreTrips road n k numbers trips = AllZip (λ q trip. IsTrip road (node_position n (start_of n k q)) (node_position n (stop_of n k q)) trip) numbers trips

-- the line on metric k
abbrev pub IsLine : NetworkView → (n k : ℕ) → List ℕ → Type 0
IsLine network n k line = (trips : List Trip) × AreTrips (metric_road network n k) n k (range_with_len 0 16) trips × (line ≡ line_text k trips)

-- the lines on metrics 0 to 3
abbrev pub AreLines : NetworkView → ℕ → List ℕ → Type 0
AreLines network n text = (lines : List (List ℕ)) × AllZip (λ k line. IsLine network n k line) (range_with_len 0 4) lines × (text ≡ flat_map (λ line. line) lines)

-- the text of the town, read as a map, makes a network with the drill's settings, and these are its lines
pub record IsDrill (n : ℕ) (text : List ℕ) : Type 0 where
  pub network : NetworkView
  pub loads : load_of (town_text n) settings_text ≡ Ok network
  pub lines : AreLines network n text
