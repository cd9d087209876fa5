-- How a run ends that counts what is in a map (this project's rule), by its status. It takes nothing of
-- the input.
use Rattle.std.specs.Prelude.{◌≡◌, ℕ, ◌⊎◌, List, Ok}
use Rattle.std.specs.Io.KnownBytes.{Appends}
use Rattle.edge_graph.specs.NetworkView.{NetworkView}
use Rattle.road_io.specs.Faults.{OutputRose}
use Rattle.road_io.specs.Outside.{Outside, NoneRose}
use Rattle.road_io.specs.Views.{FilesView}
use Rattle.map_loading.specs.Counting.{check_text, counts_of}
use Rattle.map_loading.specs.Loading.{load_of}
use Rattle.opl_read.specs.Objects.{opl_objects}
use Rattle.road_base.specs.declared.osm_objects.Object.{Object}
use Rattle.road_base.specs.declared.program_status.Status.{Status}
use Rattle.road_base.specs.declared.program_status.Status.TheVariants as status
use Rattle.road_io.specs.Told.{AppendsFront}
use Rattle.road_run.specs.MapReads.{MapRefused, both_files, both_names}
use Rattle.program_ends.specs.FileReads.{AreRead}
use Rattle.program_ends.specs.StoppedEarly.{IsExhausted, IsUnread}

-- the files of the words were read, and hold a map and settings, whose counts these are
pub record IsCounted (before after : FilesView) (map settings text : List ℕ) : Type 0 where
  pub map_bytes : List ℕ
  pub settings_bytes : List ℕ
  pub read : AreRead before after (both_files map settings map_bytes settings_bytes)
  pub objects : List Object
  pub are_objects : opl_objects map_bytes ≡ Ok objects
  pub network : NetworkView
  pub loads : load_of map_bytes settings_bytes ≡ Ok network
  pub is_text : text ≡ check_text (counts_of objects) network

-- the counts stand in the output, or a proper front of them where it failed
abbrev pub Counted : Outside → Outside → List ℕ → List ℕ → Type 0
Counted before after map settings = (text : List ℕ) × IsCounted before.files after.files map settings text × Appends before.output.written after.output.written text

abbrev pub CountedFront : Outside → Outside → List ℕ → List ℕ → Type 0
CountedFront before after map settings = (text : List ℕ) × IsCounted before.files after.files map settings text × AppendsFront before.output.written after.output.written text

abbrev pub EndsCheck : Status → Outside → Outside → List ℕ → List ℕ → Type 0
EndsCheck status.Ok before after map settings = NoneRose before after × Counted before after map settings
EndsCheck status.Outside before after map settings =
    IsUnread before after (both_names map settings)
    ⊎ (OutputRose before.output after.output × CountedFront before after map settings)
EndsCheck status.Words before after map settings = ⊥
EndsCheck status.Refused before after map settings = MapRefused before after map settings
EndsCheck status.Memory before after map settings = IsExhausted before after (both_names map settings)
