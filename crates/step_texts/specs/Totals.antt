-- What legs and steps cost (OSRM's HTTP API, version 1; which weights there are is this project's rule).
use Rattle.std.specs.Prelude.{ℕ, List, [], ◌∷◌, codes, if◌then◌else◌}
use Rattle.search_graph.specs.declared.costs.WeightDurLen.{WeightDurLen}
use Rattle.way_profile.specs.Vehicle.{ProfileView}
use Rattle.json_text.specs.Values.{JsonValue, tenths}
use Rattle.step_texts.specs.declared.totals.Totals.{Totals}
use Rattle.step_texts.specs.declared.weight_names.WeightName.{WeightName}
use Rattle.step_texts.specs.declared.weight_names.WeightName.TheVariants as name

-- a leg's or a step's
abbrev pub leg_totals : WeightDurLen → Totals
leg_totals cost = record { length = cost.length; duration = cost.duration; weight = cost.weight }

-- decimetres in metres, deciseconds in seconds, and tenths of a weight in whole ones
abbrev pub totals_members : Totals → List (List ℕ × JsonValue)
totals_members totals = (codes "distance", tenths totals.length) ∷ (codes "duration", tenths totals.duration) ∷ (codes "weight", tenths totals.weight) ∷ []

-- what the vehicle of a profile weighs a road by, and its name
abbrev pub weight_name : ProfileView → WeightName
weight_name profile = if profile.by_distance then name.Distance else name.Duration

abbrev pub weight_text : WeightName → List ℕ
weight_text name.Duration = codes "duration"
weight_text name.Distance = codes "distance"
