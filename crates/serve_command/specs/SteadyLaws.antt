-- A run to serve over files, an output and doors that never fail.
use Rattle.std.specs.Prelude.{◌≡◌}
use Rattle.command_words.specs.Commands.{Serving}
use Rattle.road_base.specs.declared.program_status.Status.TheVariants as status
use Rattle.road_io.specs.DoorOpening.{DoorsView}
use Rattle.road_io.specs.Outside.{Outside}
use Rattle.road_io.specs.Views.{FilesView, OutputView}
use Rattle.serve_command.specs.ServeEnding.{EndsServe}

-- they tell that none of their calls failed, as forms that never fail do by their types
pub record HaveNoFault (files : FilesView) (output : OutputView) (doors : DoorsView) : Type 0 where
  pub files_steady : files.faults ≡ 0
  pub output_steady : output.faults ≡ 0
  pub doors_steady : doors.faults ≡ 0

-- behind a run over such the status is not 1
abbrev pub NeverOutside : Serving → Outside → Outside → DoorsView → DoorsView → Type 0
NeverOutside words before after doors now = HaveNoFault after.files after.output now → EndsServe status.Outside words before after doors now → ⊥
