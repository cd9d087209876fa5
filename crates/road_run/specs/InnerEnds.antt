-- Serves this crate's own functions alone, and is no part of what `run` promises: how the steps of a run
-- end, each by what it knows itself.
use Rattle.std.specs.Prelude.{◌≡◌, ℕ, ◌⊎◌, List, Result, Ok, Err}
use Rattle.edge_graph.specs.NetworkView.{NetworkView}
use Rattle.road_io.specs.Outside.{Outside}
use Rattle.road_io.specs.Putting.{Closes}
use Rattle.road_io.specs.Views.{OutputView}
use Rattle.line_session.specs.Publication.{Publication, opening}
use Rattle.map_loading.specs.Counting.{check_text, counts_of}
use Rattle.map_loading.specs.Loading.{load_of}
use Rattle.program_ends.specs.StoppedEarly.{memory_line}
use Rattle.opl_read.specs.Objects.{opl_objects}
use Rattle.road_base.specs.declared.osm_objects.Object.{Object}
use Rattle.road_base.specs.declared.program_status.Status.{Status}
use Rattle.road_base.specs.declared.program_status.Status.TheVariants as status
use Rattle.road_run.specs.AskEnding.{EndsFailed, EndsTold, EndsUnread, IsLong}
use Rattle.road_run.specs.TownEnding.{EndsPut}

-- the end of answering lines from a publication on, by the status
abbrev pub EndsFrom : Status → Publication → Outside → Outside → Type 0
EndsFrom status.Ok first before after = EndsTold first before after
EndsFrom status.Outside first before after = EndsFailed first before after ⊎ EndsUnread first before after
EndsFrom status.Words first before after = ⊥
EndsFrom status.Refused first before after = IsLong first before after
EndsFrom status.Memory first before after = (after.files ≡ before.files) × (after.input ≡ before.input) × Closes before.output after.output memory_line

-- the end of answering lines over what a map and settings are loaded as; where that was not begun, nothing
-- was taken of the input, and no further file was read
pub data EndsOver (code : Status) (loaded : Result NetworkView (List ℕ)) (before after : Outside) : Type 0 where
  answered : (network : NetworkView) → loaded ≡ Ok network → EndsFrom code (opening network) before after → EndsOver code loaded before after
  refused : (line : List ℕ) → loaded ≡ Err line → code ≡ status.Refused → after.files ≡ before.files → after.input ≡ before.input → Closes before.output after.output line → EndsOver code loaded before after
  exhausted : code ≡ status.Memory → after.files ≡ before.files → after.input ≡ before.input → Closes before.output after.output memory_line → EndsOver code loaded before after

-- the end of counting over the bytes of a map and settings
pub data EndsCountOver (code : Status) (map settings : List ℕ) (before after : OutputView) : Type 0 where
  counted : (objects : List Object) (network : NetworkView) → opl_objects map ≡ Ok objects → load_of map settings ≡ Ok network → EndsPut code (check_text (counts_of objects) network) before after → EndsCountOver code map settings before after
  count_refused : (line : List ℕ) → load_of map settings ≡ Err line → code ≡ status.Refused → Closes before after line → EndsCountOver code map settings before after
  count_exhausted : code ≡ status.Memory → Closes before after memory_line → EndsCountOver code map settings before after
