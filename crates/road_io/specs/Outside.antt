-- All of the outside of a run: files, an input and an output.
use Rattle.std.specs.Prelude.{◌≡◌}
use Rattle.road_io.specs.Views.{FilesView, InputView, OutputView}

pub record Outside : Type 0 where
  pub files : FilesView
  pub input : InputView
  pub output : OutputView

abbrev pub outside : FilesView → InputView → OutputView → Outside
outside files input output = record { files = files; input = input; output = output }

-- no count of faults rose
pub record NoneRose (before after : Outside) : Type 0 where
  pub files : after.files.faults ≡ before.files.faults
  pub input : after.input.faults ≡ before.input.faults
  pub output : after.output.faults ≡ before.output.faults
