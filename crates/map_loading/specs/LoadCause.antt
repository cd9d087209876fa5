-- What a fault of loading comes from.
use Rattle.std.specs.Prelude.{◌≡◌, ℕ, List, Result, Err, ⊤}
use Rattle.edge_graph.specs.NetworkView.{NetworkView}
use Rattle.vehicle_settings.specs.declared.settings_faults.SettingsFault.{SettingsFault}
use Rattle.vehicle_settings.specs.declared.settings_faults.SettingsFault.TheVariants as setting
use Rattle.map_loading.specs.Loading.{settings_line}
use Rattle.map_loading.specs.declared.loading.LoadFault.{LoadFault}
use Rattle.map_loading.specs.declared.loading.LoadFault.TheVariants.{Refused, Memory}

-- a refusal is on the line that the definition gives; want of memory has no cause
abbrev pub IsLoadFault : Result NetworkView (List ℕ) → LoadFault → Type 0
IsLoadFault defined (Refused line) = defined ≡ Err line
IsLoadFault defined Memory = ⊤

-- what a fault of the settings is to loading: a refusal on its line, or want of memory
abbrev pub IsRefusalOf : SettingsFault → LoadFault → Type 0
IsRefusalOf setting.Memory (Refused line) = ⊥
IsRefusalOf fault (Refused line) = line ≡ settings_line fault
IsRefusalOf fault Memory = ⊤
