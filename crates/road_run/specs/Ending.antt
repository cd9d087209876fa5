-- How a run of the program ends (this project's rule): by the command that its words make and by its
-- status, what stands in the output, what was read and taken, and what the status comes from.
use Rattle.std.specs.Prelude.{◌≡◌, ℕ, ◌⊎◌, List, codes, Option, Some, None}
use Rattle.command_words.specs.Commands.{Command, Ask, Check, Drill, Serve, Town}
use Rattle.road_io.specs.DoorOpening.{DoorsView}
use Rattle.road_io.specs.Outside.{Outside}
use Rattle.road_io.specs.Putting.{Closes}
use Rattle.program_ends.specs.StoppedEarly.{memory_line}
use Rattle.road_base.specs.declared.program_status.Status.{Status}
use Rattle.road_base.specs.declared.program_status.Status.TheVariants as status
use Rattle.road_run.specs.AskEnding.{EndsAsk}
use Rattle.road_run.specs.CheckEnding.{EndsCheck}
use Rattle.road_run.specs.TownEnding.{EndsDrill, EndsTown}
use Rattle.serve_command.specs.ServeEnding.{EndsServe}

abbrev pub usage_line : List ℕ
usage_line = codes "usage: road_router check OPL SETTINGS | ask OPL SETTINGS | serve OPL SETTINGS --listen A --control B [--workers N] [--segment-speed-file F] [--turn-penalty-file F] | town N | drill N\n"

-- the run ended with this status on this line; no file was read, and nothing was taken of the input
pub record EndsUntouched (code expected : Status) (before after : Outside) (line : List ℕ) : Type 0 where
  pub status : code ≡ expected
  pub files : after.files ≡ before.files
  pub input : after.input ≡ before.input
  pub put : Closes before.output after.output line

-- the end of a run on these words, by the command that they make, if they make one; the doors tell this before it and
-- that after it
abbrev pub EndsOn : Option Command → Status → Outside → Outside → DoorsView → DoorsView → Type 0
EndsOn (Some (Check map settings)) code before after doors now =
    EndsCheck code before after map settings × (after.input ≡ before.input) × (now ≡ doors)
EndsOn (Some (Ask map settings)) code before after doors now = EndsAsk code before after map settings × (now ≡ doors)
EndsOn (Some (Serve words)) code before after doors now = EndsServe code words before after doors now
EndsOn (Some (Town n)) code before after doors now =
    EndsTown code n before.output after.output × (after.files ≡ before.files) × (after.input ≡ before.input) × (now ≡ doors)
EndsOn (Some (Drill n)) code before after doors now =
    EndsDrill code n before.output after.output × (after.files ≡ before.files) × (after.input ≡ before.input) × (now ≡ doors)
EndsOn None code before after doors now = EndsUntouched code status.Words before after usage_line × (now ≡ doors)

-- there was no memory to read the words
abbrev pub EndsWordless : Status → Outside → Outside → DoorsView → DoorsView → Type 0
EndsWordless code before after doors now = EndsUntouched code status.Memory before after memory_line × (now ≡ doors)

-- the end of a run: one on its words, or for want of memory to read them
abbrev pub EndsRun : Option Command → Status → Outside → Outside → DoorsView → DoorsView → Type 0
EndsRun command code before after doors now = EndsOn command code before after doors now ⊎ EndsWordless code before after doors now
