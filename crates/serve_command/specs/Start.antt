-- What a run to serve begins with (this project's rule): its files, and the first metric that they make.
use Rattle.std.specs.Prelude.{◌≡◌, ◌⊎◌, ℕ, List, [], ◌∷◌, ◌++◌, codes, Ok, Err}
use Rattle.std.specs.Fmt.{decimal}
use Rattle.command_words.specs.Commands.{Serving}
use Rattle.control_port.specs.Controlling.{Board, IsBaseOf, IsFirstFault}
use Rattle.control_port.specs.Telling.{file_text, kind_text}
use Rattle.customized.specs.Exact.{customized_on}
use Rattle.customized.specs.Framing.{RoadsView}
use Rattle.edge_graph.specs.NetworkView.{NetworkView}
use Rattle.map_loading.specs.Loading.{load_of}
use Rattle.metric_make.specs.MetricOf.{MetricView}
use Rattle.metric_publish.specs.History.{entry}
use Rattle.program_ends.specs.FileReads.{AreRead, FileBytes, IsBare, listed, named}
use Rattle.road_io.specs.Views.{FilesView}
use Rattle.traffic_files.specs.declared.rows.RowFault.{RowFault}

-- the bytes of a map, of settings, of a speeds file and of a turns file
pub record StartBytes : Type 0 where
  pub map : List ℕ
  pub settings : List ℕ
  pub speeds : List ℕ
  pub turns : List ℕ

abbrev pub start_bytes : List ℕ → List ℕ → List ℕ → List ℕ → StartBytes
start_bytes map settings speeds turns = record { map = map; settings = settings; speeds = speeds; turns = turns }

-- the files that are read first, in this order: those of speeds and turns where they are named
abbrev pub files_of : Serving → StartBytes → List FileBytes
files_of words bytes = (words.map, bytes.map) ∷ (words.settings, bytes.settings) ∷ (named words.speeds bytes.speeds ++ named words.turns bytes.turns)

abbrev pub names_in : Serving → List (List ℕ)
names_in words = words.map ∷ words.settings ∷ (listed words.speeds ++ listed words.turns)

-- they were read, and hold these bytes: a file that is not named holds none
pub record IsStartRead (before after : FilesView) (words : Serving) (bytes : StartBytes) : Type 0 where
  pub read : AreRead before after (files_of words bytes)
  pub no_speeds : IsBare words.speeds bytes.speeds
  pub no_turns : IsBare words.turns bytes.turns

-- the line on which a faulty row is refused
abbrev pub row_line : RowFault → List ℕ
row_line fault = file_text fault.file ++ (codes " row " ++ (decimal fault.row ++ (codes " " ++ (kind_text fault.kind ++ codes "\n"))))

-- a row is refused on this line, the first faulty one of both files: one of the speeds file comes before any of the turns
-- file
pub record IsRowRefused (bytes : StartBytes) (line : List ℕ) : Type 0 where
  pub network : NetworkView
  pub loads : load_of bytes.map bytes.settings ≡ Ok network
  pub fault : RowFault
  pub first : IsFirstFault bytes.speeds bytes.turns fault
  pub line_is : line ≡ row_line fault

-- the start is refused on this line: first map, settings and limits are judged, and then the rows
abbrev pub IsStartRefused : StartBytes → List ℕ → Type 0
IsStartRefused bytes line = (load_of bytes.map bytes.settings ≡ Err line) ⊎ IsRowRefused bytes line

-- one publication, under number 0: the metric of the rows on the network of map and settings
pub record IsOpening (bytes : StartBytes) (roads : RoadsView) (first : Board) : Type 0 where
  pub base : MetricView
  pub loads : load_of bytes.map bytes.settings ≡ Ok roads.network
  pub made : IsBaseOf roads.network bytes.speeds bytes.turns base
  pub first_is : first ≡ entry 0 (customized_on roads base) ∷ []
