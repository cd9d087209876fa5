-- What the program makes of a map and a vehicle's settings: the road network, or the line on which it
-- refuses them. The map is judged first, then the settings, then the limits.
use Rattle.std.specs.Prelude.{ℕ, nat_le, List, ◌++◌, length, codes, Result, Ok, Err, if◌then◌else◌}
use Rattle.std.specs.Fmt.{decimal}
use Rattle.edge_graph.specs.Limits.{most_copies}
use Rattle.road_turns.specs.Limits.{most_turns}
use Rattle.road_segments.specs.Limits.{most_segments}
use Rattle.edge_graph.specs.NetworkView.{NetworkView, copies_in, graph_of, network_of}
use Rattle.opl_read.specs.Objects.{opl_objects}
use Rattle.opl_read.specs.declared.line_faults.FaultKind.{FaultKind}
use Rattle.opl_read.specs.declared.line_faults.FaultKind.TheVariants as kind
use Rattle.opl_read.specs.declared.line_faults.LineFault.{LineFault}
use Rattle.road_base.specs.declared.osm_objects.Object.{Object}
use Rattle.way_profile.specs.Settings.{settings_of}
use Rattle.way_profile.specs.Vehicle.{ProfileView}
use Rattle.vehicle_settings.specs.declared.settings_faults.SettingsFault.{SettingsFault}
use Rattle.vehicle_settings.specs.declared.settings_faults.SettingsFault.TheVariants as setting

-- the word for what is wrong with a line of the map
abbrev pub kind_word : FaultKind → List ℕ
kind_word kind.NotUtf8 = codes "NotUtf8"
kind_word kind.BadKind = codes "BadKind"
kind_word kind.BadNumber = codes "BadNumber"
kind_word kind.BadEscape = codes "BadEscape"
kind_word kind.BadField = codes "BadField"
kind_word kind.Duplicate = codes "Duplicate"

abbrev pub opl_line : LineFault → List ℕ
opl_line fault = codes "opl line " ++ (decimal fault.line ++ (codes " " ++ (kind_word fault.kind ++ codes "\n")))

abbrev pub memory_line : List ℕ
memory_line = codes "out of memory\n"

-- a settings file is never refused for want of memory, so the last case never comes
abbrev pub settings_line : SettingsFault → List ℕ
settings_line setting.NotToml = codes "settings NotToml\n"
settings_line (setting.UnknownKey key) = codes "settings UnknownKey " ++ (key ++ codes "\n")
settings_line (setting.Missing key) = codes "settings Missing " ++ (key ++ codes "\n")
settings_line (setting.BadValue key) = codes "settings BadValue " ++ (key ++ codes "\n")
settings_line setting.Memory = memory_line

abbrev pub segments_line : List ℕ
segments_line = codes "too many segments\n"

abbrev pub vias_line : List ℕ
vias_line = codes "too many vias\n"

abbrev pub turns_line : List ℕ
turns_line = codes "too many turns\n"

-- the network, where the graph that is searched has no more arcs than that of a network may have
abbrev pub within_turns : NetworkView → Result NetworkView (List ℕ)
within_turns network = if nat_le (length (graph_of network).arcs) most_turns then Ok network else Err turns_line

-- nor more copies of vertices
abbrev pub within_vias : NetworkView → Result NetworkView (List ℕ)
within_vias network = if nat_le (length (copies_in network)) most_copies then within_turns network else Err vias_line

-- nor more segments itself
abbrev pub within_limits : NetworkView → Result NetworkView (List ℕ)
within_limits network = if nat_le (length network.segments) most_segments then within_vias network else Err segments_line

abbrev pub load_from : Result (List Object) LineFault → Result ProfileView SettingsFault → Result NetworkView (List ℕ)
load_from (Err fault) settings = Err (opl_line fault)
load_from (Ok objects) (Err fault) = Err (settings_line fault)
load_from (Ok objects) (Ok profile) = within_limits (network_of objects profile)

-- the network of a map's bytes and a settings file's, or the line on which they are refused
unfoldable pub load_of : (map settings : List ℕ) → Result NetworkView (List ℕ)
load_of map settings = load_from (opl_objects map) (settings_of settings)
