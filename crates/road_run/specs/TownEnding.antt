-- How a run ends that writes a generated town, or what a drill on it tells (this project's rule), by its status. It reads
-- no file and takes nothing of the input.
use Rattle.std.specs.Prelude.{◌≡◌, ℕ, List, Err}
use Rattle.std.specs.Io.KnownBytes.{Appends}
use Rattle.map_loading.specs.Loading.{load_of}
use Rattle.program_ends.specs.StoppedEarly.{memory_line}
use Rattle.road_base.specs.declared.program_status.Status.{Status}
use Rattle.road_base.specs.declared.program_status.Status.TheVariants as status
use Rattle.road_io.specs.Faults.{OutputRose}
use Rattle.road_io.specs.Putting.{Closes}
use Rattle.road_io.specs.Told.{AppendsFront}
use Rattle.road_io.specs.Views.{OutputView}
use Rattle.town_drill.specs.Asked.{settings_text}
use Rattle.town_drill.specs.Drill.{IsDrill}
use Rattle.town_text.specs.Town.{town_text}

-- the end of putting a text: it stands in the output, or a proper front of it where that failed, or there was no memory
-- for it
abbrev pub EndsPut : Status → List ℕ → OutputView → OutputView → Type 0
EndsPut status.Ok text before after = (after.faults ≡ before.faults) × Appends before.written after.written text
EndsPut status.Outside text before after = OutputRose before after × AppendsFront before.written after.written text
EndsPut status.Words text before after = ⊥
EndsPut status.Refused text before after = ⊥
EndsPut status.Memory text before after = Closes before after memory_line

-- the text of the town of this number is put
abbrev pub EndsTown : Status → ℕ → OutputView → OutputView → Type 0
EndsTown code n before after = EndsPut code (town_text n) before after

-- what the drill on it tells is put, or the town is refused as a map with the drill's settings, on this line
abbrev pub EndsDrill : Status → ℕ → OutputView → OutputView → Type 0
EndsDrill status.Ok n before after = (after.faults ≡ before.faults) × ((text : List ℕ) × IsDrill n text × Appends before.written after.written text)
EndsDrill status.Outside n before after = OutputRose before after × ((text : List ℕ) × IsDrill n text × AppendsFront before.written after.written text)
EndsDrill status.Words n before after = ⊥
EndsDrill status.Refused n before after = (line : List ℕ) × (load_of (town_text n) settings_text ≡ Err line) × Closes before after line
EndsDrill status.Memory n before after = Closes before after memory_line
