-- How a run ends that answers the lines of its input (this project's rule), by its status.
use Rattle.std.specs.Prelude.{ℕ, ◌⊎◌, List, codes}
use Rattle.edge_graph.specs.NetworkView.{NetworkView}
use Rattle.line_session.specs.Publication.{Publication, opening}
use Rattle.line_session.specs.Stopping.{FileFailed, InputFailed, OutputFailed, ToldAll, TookTooMuch}
use Rattle.road_base.specs.declared.program_status.Status.{Status}
use Rattle.road_base.specs.declared.program_status.Status.TheVariants as status
use Rattle.road_io.specs.Outside.{Outside, NoneRose, outside}
use Rattle.road_io.specs.Putting.{Closes}
use Rattle.road_io.specs.Views.{FilesView, OutputView}
use Rattle.road_run.specs.MapReads.{IsLoaded, MapRefused, both_names}
use Rattle.program_ends.specs.StoppedEarly.{IsExhausted, IsUnread, cannot_read}

abbrev pub long_line : List ℕ
long_line = codes "input too long\n"

-- the lines were all answered, from this publication on
abbrev pub EndsTold : Publication → Outside → Outside → Type 0
EndsTold first before after = (last : Publication) × ToldAll first last before after

-- the input or the output failed
abbrev pub EndsFailed : Publication → Outside → Outside → Type 0
EndsFailed first before after = (last : Publication) × (InputFailed first last before after ⊎ OutputFailed first last before after)

-- a file of a traffic line could not be read, and the line on this was put behind the replies to the lines before it
pub record EndsUnread (first : Publication) (before after : Outside) : Type 0 where
  pub name : List ℕ
  pub last : Publication
  pub replies : OutputView
  pub failed : FileFailed name first last before (outside after.files after.input replies)
  pub put : Closes replies after.output (cannot_read name)

-- 2^63 bytes of input or more were taken, and the line on this was put behind the replies to the whole lines in them
pub record IsLong (first : Publication) (before after : Outside) : Type 0 where
  pub last : Publication
  pub replies : OutputView
  pub too_much : TookTooMuch first last before (outside after.files after.input replies)
  pub put : Closes replies after.output long_line

-- the files of the words were read and hold a map and settings, and so it ended, from then on, under the first
-- publication of their network
pub record Answering (ended : Publication → Outside → Outside → Type 0) (before after : Outside) (map settings : List ℕ) : Type 0 where
  pub files : FilesView
  pub network : NetworkView
  pub loaded : IsLoaded before.files files map settings network
  pub ends : ended (opening network) (outside files before.input before.output) after

abbrev pub EndsAsk : Status → Outside → Outside → List ℕ → List ℕ → Type 0
EndsAsk status.Ok before after map settings = NoneRose before after × Answering EndsTold before after map settings
EndsAsk status.Outside before after map settings =
    IsUnread before after (both_names map settings) ⊎ (Answering EndsFailed before after map settings ⊎ Answering EndsUnread before after map settings)
EndsAsk status.Words before after map settings = ⊥
EndsAsk status.Refused before after map settings = MapRefused before after map settings ⊎ Answering IsLong before after map settings
EndsAsk status.Memory before after map settings = IsExhausted before after (both_names map settings)
