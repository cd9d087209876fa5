-- The files of a map and settings that a run read, and what they hold.
use Rattle.std.specs.Prelude.{◌≡◌, ℕ, List, [], ◌∷◌, Ok, Err}
use Rattle.edge_graph.specs.NetworkView.{NetworkView}
use Rattle.map_loading.specs.Loading.{load_of}
use Rattle.program_ends.specs.FileReads.{AreRead, FileBytes}
use Rattle.program_ends.specs.StoppedEarly.{Refuses}
use Rattle.road_io.specs.Outside.{Outside}
use Rattle.road_io.specs.Views.{FilesView}

-- both files, the map first
abbrev pub both_names : List ℕ → List ℕ → List (List ℕ)
both_names map settings = map ∷ settings ∷ []

abbrev pub both_files : List ℕ → List ℕ → List ℕ → List ℕ → List FileBytes
both_files map settings map_bytes settings_bytes = (map, map_bytes) ∷ (settings, settings_bytes) ∷ []

-- they were read, and hold a map and settings that make this network
pub record IsLoaded (before after : FilesView) (map settings : List ℕ) (network : NetworkView) : Type 0 where
  pub map_bytes : List ℕ
  pub settings_bytes : List ℕ
  pub read : AreRead before after (both_files map settings map_bytes settings_bytes)
  pub loads : load_of map_bytes settings_bytes ≡ Ok network

-- they were read, and what they hold is refused on a line
pub record MapRefused (before after : Outside) (map settings : List ℕ) : Type 0 where
  pub map_bytes : List ℕ
  pub settings_bytes : List ℕ
  pub line : List ℕ
  pub refuses : Refuses before after (both_files map settings map_bytes settings_bytes) line
  pub refused : load_of map_bytes settings_bytes ≡ Err line
